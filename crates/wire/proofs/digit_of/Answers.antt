-- `wire::digit_of` meets its contract.
use native.Mathlib.Omega.{arith}
use Rattle.wire.proofs.Digits.{decimal_number, letter_number, no_number}
use Rattle.wire.proofs.digit_of.Goals as goal

pub returns-in-48-to-57 : goal.returns-in-48-to-57
returns-in-48-to-57 c = decimal_number _ (omega arith) (omega arith)

pub returns-in-65-to-70 : goal.returns-in-65-to-70
returns-in-65-to-70 c = letter_number _ (omega arith) (omega arith)

pub returns-in_default : goal.returns-in_default
returns-in_default c = no_number _ (omega arith) (λ h k. omega arith) (λ h k. omega arith)

pub returns-in_default-2 : goal.returns-in_default-2
returns-in_default-2 c = no_number _ (omega arith) (λ h k. omega arith) (λ h k. omega arith)

pub returns-in_default-3 : goal.returns-in_default-3
returns-in_default-3 c = no_number _ (omega arith) (λ h k. omega arith) (λ h k. omega arith)
