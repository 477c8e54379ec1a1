-- What a function answers that judges its input by rules: the refusal n, or, where n is 0 for none, what it accepts.
-- Assumes nothing.
use Rattle.std.specs.Prelude.{ℕ, zero, suc, [], Result, Ok, Err}
use Rattle.wire.specs.Numbered.{number_of, refusal}
use Rattle.wire.specs.Told.{Told, accepted, refused}
use Rattle.wire.specs.declared.refusals.Refusal.{Refusal}

abbrev pub answered : {A : Type 0} → (ℕ → A) → A → ℕ → A
answered refuse accept zero = accept
answered refuse accept (suc n) = refuse (suc n)

abbrev pub refuse : {A : Type 0} → ℕ → Result A Refusal
refuse n = Err (refusal n)

-- where what is accepted is x, and where there is nothing to say of it
abbrev pub judged : {A : Type 0} → A → ℕ → Result A Refusal
judged x n = answered refuse (Ok x) n

-- what a judge tells: nothing of what it accepts
abbrev pub told_judged : Result Unit Refusal → Told
told_judged (Ok x) = accepted []
told_judged (Err e) = refused (number_of e)
