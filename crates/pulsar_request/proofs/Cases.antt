-- What is owed in an arm of a match on the function or the request, from what is shown of that arm's case.
-- Assumes nothing.
use mathlib.Core.Path.{◌≡◌}
use mathlib.Core.List.{List}
use Prim.Native.Nat.{ℕ}
use Rattle.std.specs.Prelude.{Option, Result, Ok, Err}
use Rattle.wire.specs.Answer.{judged}
use Rattle.wire.specs.Refusal.{first}
use Rattle.wire.specs.declared.refusals.Refusal.{Refusal}
use Rattle.pulsar_body.specs.Fields.{mask_of}
use Rattle.pulsar_body.specs.Body.{judged_body}
use Rattle.pulsar_body.proofs.Laws.{reading_refused, reading_fields_refused, reading_done}
use Rattle.pulsar_request.specs.Layout.{function_from, form_of, request_of}
use Rattle.pulsar_request.specs.Reading.{field_rules, read_request}
use Rattle.pulsar_request.specs.declared.Request.{Request}
use Rattle.pulsar_request.specs.declared.Function.{Function}

abbrev pub fields_answer : Function → List ℕ → Result Unit Refusal
fields_answer f s = judged tt (first (field_rules f s))

-- ---- reading, by the number that a function is known from
module _ (number width mask : ℕ) (s : List ℕ) (function : Option Function) (known : function ≡ function_from number) (em : mask ≡ mask_of s) where
  body : (r : Result Function Refusal) → r ≡ judged_body form_of function width mask s → r ≡ judged_body form_of (function_from number) width (mask_of s) s
  body r e = rw (← known, ← em) e

  pub read_refused : (e : Refusal) → Err e ≡ judged_body form_of function width mask s → Err e ≡ read_request number width s
  unfolding read_request
  read_refused e h = reading_refused form_of (λ (f : Function). field_rules f s) (λ (f : Function). request_of f s) width (mask_of s) s (function_from number) e (body (Err e) h)

  pub read_fields_refused : (f : Function) (e : Refusal) → Ok f ≡ judged_body form_of function width mask s → Err e ≡ fields_answer f s → Err e ≡ read_request number width s
  unfolding read_request
  read_fields_refused f e ok h = reading_fields_refused form_of (λ (f : Function). field_rules f s) (λ (f : Function). request_of f s) width (mask_of s) s (function_from number) f e (body (Ok f) ok) h

  pub read_done : (f : Function) (q : Request) → Ok f ≡ judged_body form_of function width mask s → Ok tt ≡ fields_answer f s → q ≡ request_of f s → Ok q ≡ read_request number width s
  unfolding read_request
  read_done f q ok h eq = reading_done form_of (λ (f : Function). field_rules f s) (λ (f : Function). request_of f s) width (mask_of s) s (function_from number) f q (body (Ok f) ok) h eq
