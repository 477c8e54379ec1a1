-- `reading::of_bits` meets its contract.
use borrow.Author.Rules.{rules}
use Rattle.reading.proofs.of_bits.Goals as goal

pub enum_told-1 : goal.enum_told-1
enum_told-1 c = search rules
