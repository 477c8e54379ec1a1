-- `modbus_ascii::hex::Digits::put_data` meets its contract.
use mathlib.Core.Path.{◌≡◌, ap, ◌∙◌}
use mathlib.Core.List.{List, ◌++◌}
use Prim.Native.Nat.{ℕ}
use native.Mathlib.Omega.{arith}
use lib.ListN.{length, set, take, drop, length-drop}
use lib.Seq.{sets, length-take-le}
use Rattle.modbus_ascii.specs.Hex.{of_hex}
use Rattle.modbus_ascii.proofs.Pairs.{length_of_hex}
use Rattle.modbus_ascii.proofs.Steps.{data_turn, front_stored}
use Rattle.modbus_ascii.proofs.hex.Digits.put_data.Goals as goal

pub loop-i-preserved : goal.loop-i-preserved
loop-i-preserved c =
    let l = c.loop-i in
    let out = take c.args.n c.args.out.now in
    let long : length out ≡ c.args.n = length-take-le c.args.n c.args.out.now c.requires.1 in
    ap (λ (o : List ℕ). set o l.i c.byte_at.result) l.invariant ∙ data_turn out c.args.self.now.chars.now l.i _ (omega (arith, c.requires.0)) c.byte_at.ensures

pub returns : goal.returns
returns c =
    let l = c.loop-i in
    let a = c.args in
    let D = drop 2 (of_hex a.self.now.chars.now) in
    let out = take a.n a.out.now in
    let long : length out ≡ a.n = length-take-le a.n a.out.now c.requires.1 in
    let all : l.i ≡ a.n = omega arith in
    let whole : length (take a.n D) ≡ a.n = length-take-le a.n D (rw length-drop (omega (arith, c.requires.0, length_of_hex a.self.now.chars.now))) in
    ap (λ (o : List ℕ). o ++ drop a.n a.out.now) (l.invariant ∙ ap (λ (k : ℕ). sets out 0 (take k D)) all)
    ∙ front_stored a.out.now (take a.n D) a.n whole c.requires.1
