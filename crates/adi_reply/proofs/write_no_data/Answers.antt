-- `adi_reply::write_no_data` meets its contract.
use mathlib.Core.Path.{refl}
use mathlib.Core.List.{[]}
use Rattle.adi.proofs.Room.{refused_16, stored}
use Rattle.adi_reply.specs.Layout.{no_data_bytes}
use Rattle.adi_reply.proofs.write_no_data.Goals as goal

pub returns-then-out-lt4 : goal.returns-then-out-lt4
returns-then-out-lt4 c = refused_16 [] (no_data_bytes c.args.count c.args.length) _ tt refl 4 refl c.if-out-lt4.true

pub returns : goal.returns
returns c = stored [] (no_data_bytes c.args.count c.args.length) _ tt refl 4 refl c.if-out-lt4.false _ refl
