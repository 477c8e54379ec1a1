-- `modbus::envelope::write` meets its contract.
use mathlib.Core.Path.{◌≡◌, refl, ap, ◌∙◌}
use mathlib.Core.Bool.{false}
use mathlib.Core.List.{List}
use Prim.Native.Nat.{ℕ}
use lib.ListN.{length}
use Rattle.std.specs.Prelude.{Result, Ok, Err}
use Rattle.std.proofs.lemmas.Result.{err_from_is_err_and}
use Rattle.wire.specs.Answer.{judged}
use Rattle.wire.specs.Refusal.{first}
use Rattle.wire.specs.Writes.{write_answer}
use Rattle.wire.specs.declared.refusals.Refusal.{Refusal}
use Rattle.wire.proofs.Rules.{first_named}
use Rattle.wire.proofs.Writes.{writes_judged}
use Rattle.modbus.specs.Envelope.{Message, Envelope, message_of, bytes_of, counted_of, write_rules, envelope_output, WritesEnvelope}
use Rattle.modbus.proofs.Room.{same_first, whole, zero_first}
use Rattle.modbus.proofs.envelope.write.Goals as goal

-- n is what was counted
module _ (e : Envelope) (m : Message) (out : List ℕ) (n : ℕ) (counted : n ≡ length (bytes_of e (counted_of m))) where
  abbrev number : ℕ
  number = first (write_rules m.«data» n out)

  refused : (why : Refusal) → ◌≡◌ {A = Result Unit Refusal} (Err why) (judged tt number) → WritesEnvelope e m out (Err why) out
  refused why q = writes_judged (bytes_of e m) out tt _ _ why (q ∙ ap (judged tt) (same_first e m out n counted)) refl (first_named (write_rules m.«data» (length (bytes_of e m)) out) tt)

  written : ◌≡◌ {A = Result Unit Refusal} (Ok tt) (judged tt number) → (out' : List ℕ) → out' ≡ envelope_output e m out → WritesEnvelope e m out (Ok n) out'
  written q out' eo =
      record {
        answer = ap Ok (whole e m out n counted (Ok tt) false q refl refl) ∙ ap (λ (k : ℕ). write_answer k (bytes_of e m)) (zero_first e m out n counted (Ok tt) false q refl refl);
        output = eo;
        told = zero_first e m out n counted (Ok tt) false q refl refl;
      }

pub returns-in_err-write_fault : goal.returns-in_err-write_fault
returns-in_err-write_fault g c =
    let a = c.args in
    let p = err_from_is_err_and c.from_residual.result c.from_residual.ensures.1 in
    rw (p.1, p.2) (refused (g.E.Envelope.layout a.e.now) (message_of a.m.now) a.out.now _ c.needed-n.ensures _ c.in_err-write_fault.ensures)

pub returns : goal.returns
returns g c =
    let a = c.args in
    written (g.E.Envelope.layout a.e.now) (message_of a.m.now) a.out.now _ c.needed-n.ensures c.in_ok-write_fault.ensures _ c.put.ensures
