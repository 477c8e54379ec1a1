-- `sm160_datagram::Joined::field` meets its contract.
use Rattle.sm160_datagram.proofs.Stretches.{in_first, in_second, gathered_field}
use Rattle.sm160_datagram.proofs.Joined.field.Goals as goal

pub returns-then-left : goal.returns-then-left
returns-then-left g c =
    let s = c.self.inside in
    cc (in_first s.held.now s.part.now c.args.at g.row.W c.minus-left.result c.minus-left.ensures c.if-left.true)

pub returns-then-left-eq0 : goal.returns-then-left-eq0
returns-then-left-eq0 g c =
    let s = c.self.inside in
    cc (in_second s.held.now s.part.now c.args.at g.row.W c.minus-left.result c.minus-left.ensures c.if-left-eq0.true)

pub returns : goal.returns
returns g c =
    let s = c.self.inside in
    cc (gathered_field s.held.now s.part.now c.args.at g.row.W)
