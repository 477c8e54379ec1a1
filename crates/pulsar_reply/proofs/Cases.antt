-- What is owed in an arm of a match on the function or the reply, from what is shown of that arm's case.
-- Assumes nothing.
use mathlib.Core.Path.{◌≡◌, sym, ap, ◌∙◌}
use mathlib.Core.Bool.{Bool, true, false, cond}
use mathlib.Core.List.{List}
use Prim.Native.Nat.{ℕ}
use Rattle.std.specs.Prelude.{Option, Result, Ok, Err}
use Rattle.wire.specs.Answer.{judged}
use Rattle.wire.specs.Refusal.{first}
use Rattle.wire.specs.declared.refusals.Refusal.{Refusal}
use Rattle.pulsar_body.specs.Body.{judged_body}
use Rattle.pulsar_body.proofs.Laws.{reading_refused, reading_fields_refused, reading_done}
use Rattle.date.specs.Date.{is_no_date}
use Rattle.date.specs.declared.DateTime.{DateTime}
use Rattle.pulsar_reply.specs.Layout.{function_from, form_of, reply_of, clock_of}
use Rattle.pulsar_reply.specs.Reading.{field_rules, read_reply}
use Rattle.pulsar_reply.specs.declared.Reply.{Reply}
use Rattle.pulsar_reply.specs.declared.Reply.TheVariants as P
use Rattle.pulsar_reply.specs.declared.Function.{Function}

abbrev pub fields_answer : Function → ℕ → List ℕ → Result Unit Refusal
fields_answer f mask s = judged tt (first (field_rules f mask s))

-- ---- a clock's date, and none
module _ (r : Bool) (d : DateTime) (tested : r ≡ is_no_date d) where
  pub no_clock_lem : r ≡ true → P.NoClock ≡ clock_of d
  no_clock_lem t = sym (ap (λ (b : Bool). cond b P.NoClock (P.Clock d)) (sym tested ∙ t))

  pub some_clock : r ≡ false → P.Clock d ≡ clock_of d
  some_clock t = sym (ap (λ (b : Bool). cond b P.NoClock (P.Clock d)) (sym tested ∙ t))

-- ---- reading, by the number that a function is known from
module _ (number width mask : ℕ) (s : List ℕ) (function : Option Function) (known : function ≡ function_from number) where
  body : (r : Result Function Refusal) → r ≡ judged_body form_of function width mask s → r ≡ judged_body form_of (function_from number) width mask s
  body r e = rw (← known) e

  pub read_refused : (e : Refusal) → Err e ≡ judged_body form_of function width mask s → Err e ≡ read_reply number width mask s
  unfolding read_reply
  read_refused e h = reading_refused form_of (λ (f : Function). field_rules f mask s) (λ (f : Function). reply_of f s) width mask s (function_from number) e (body (Err e) h)

  pub read_fields_refused : (f : Function) (e : Refusal) → Ok f ≡ judged_body form_of function width mask s → Err e ≡ fields_answer f mask s → Err e ≡ read_reply number width mask s
  unfolding read_reply
  read_fields_refused f e ok h = reading_fields_refused form_of (λ (f : Function). field_rules f mask s) (λ (f : Function). reply_of f s) width mask s (function_from number) f e (body (Ok f) ok) h

  pub read_done : (f : Function) (q : Reply) → Ok f ≡ judged_body form_of function width mask s → Ok tt ≡ fields_answer f mask s → q ≡ reply_of f s → Ok q ≡ read_reply number width mask s
  unfolding read_reply
  read_done f q ok h eq = reading_done form_of (λ (f : Function). field_rules f mask s) (λ (f : Function). reply_of f s) width mask s (function_from number) f q (body (Ok f) ok) h eq
