-- `reading::read_value` meets its contract.
use mathlib.Core.Path.{ap, ◌∙◌, sym}
use Rattle.std.specs.Prelude.{Ok}
use Rattle.wire.specs.Numbered.{refusal}
use Rattle.wire.proofs.Answer.{refuses, passes, judged_none}
use Rattle.wire.proofs.Rules.{first_none}
use Rattle.reading.specs.Reading.{reading_of, value_rules, read_value}
use Rattle.reading.proofs.Answers.{value_number}
use Rattle.reading.proofs.read_value.Goals as goal

pub returns-then-other_length : goal.returns-then-other_length
unfolding read_value refusal
returns-then-other_length c = search (refuses, passes) depth 12

pub returns : goal.returns
unfolding read_value
returns c =
    let kind = c.args.kind in
    let fits = sym c.other_length.ensures ∙ c.if-other_length.false in
    ap Ok (c.of_bits.ensures ∙ ap (reading_of kind) (c.le64_at.ensures ∙ value_number kind _ fits))
    ∙ sym (judged_none _ _ (first_none (value_rules kind c.args.bytes.now) (fits, tt)))
