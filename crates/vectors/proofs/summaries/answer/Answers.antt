-- `vectors::summaries::answer` is safe: no value of a float summary is a NaN.
use Prim.Native.Nat.{◌<◌}
use Rattle.std.proofs.Common.{rules}
use Rattle.std.proofs.lemmas.List.{get_or_default}
use Rattle.std.specs.Float.{nan}
use Rattle.consumption.proofs.Numbers.{f32_numbers, f64_numbers}
use Rattle.vectors.proofs.summaries.answer.Goals as goal

pub tell-requires-clause-ends : goal.tell-requires-clause-ends
tell-requires-clause-ends c = let n = f32_numbers _ _ c.in_ok-s-in-F32.ensures in (n.0, n.1)

pub tell-requires-clause-each : goal.tell-requires-clause-each
tell-requires-clause-each c =
    λ i h.
    let k : i < 57 = search rules in
    rw (get_or_default c.in_ok-s-in-F32.s.steps i c.in_ok-s-in-F32.s.first nan h) ((f32_numbers _ _ c.in_ok-s-in-F32.ensures).2 i k)

pub tell-requires-in-F64-clause-ends : goal.tell-requires-in-F64-clause-ends
tell-requires-in-F64-clause-ends c = let n = f64_numbers _ _ c.in_ok-s-in-F64.ensures in (n.0, n.1)

pub tell-requires-in-F64-clause-each : goal.tell-requires-in-F64-clause-each
tell-requires-in-F64-clause-each c =
    λ i h.
    let k : i < 28 = search rules in
    rw (get_or_default c.in_ok-s-in-F64.s.steps i c.in_ok-s-in-F64.s.first nan h) ((f64_numbers _ _ c.in_ok-s-in-F64.ensures).2 i k)
