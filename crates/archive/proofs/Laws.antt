-- A kind and a source are those of their number, and a number that one has is its own.
-- Assumes nothing.
use mathlib.Core.Path.{◌≡◌, refl, ap, ◌∙◌}
use Prim.Native.Nat.{ℕ, zero, suc, ◌≤◌}
use native.Mathlib.Omega.{arith}
use borrow.Author.Tests.{ne_eqb}
use Rattle.archive.specs.Archive.{type_from, type_number, source_from, source_number}
use Rattle.archive.specs.declared.ArchiveKind.{ArchiveKind}
use Rattle.archive.specs.declared.ArchiveKind.TheVariants as A
use Rattle.archive.specs.declared.Source.{Source}
use Rattle.archive.specs.declared.Source.TheVariants as S

pub type_back : (k : ArchiveKind) → type_from (type_number k) ≡ k
type_back A.Hourly = refl
type_back A.Daily = refl
type_back A.Monthly = refl
type_back A.HalfHourly = refl

pub type_again : (n : ℕ) → (n ≡ 0 → ⊥) → n ≤ 4 → type_number (type_from n) ≡ n
type_again zero some h = absurd (some refl)
type_again (suc zero) some h = refl
type_again (suc (suc zero)) some h = refl
type_again (suc (suc (suc zero))) some h = refl
type_again (suc (suc (suc (suc zero)))) some h = refl
type_again (suc (suc (suc (suc (suc n))))) some h = absurd (omega arith)

pub source_back : (s : Source) → source_from (source_number s) ≡ s
source_back S.Current = refl
source_back (S.Archive A.Hourly) = refl
source_back (S.Archive A.Daily) = refl
source_back (S.Archive A.Monthly) = refl
source_back (S.Archive A.HalfHourly) = refl

pub source_again : (n : ℕ) → n ≤ 4 → source_number (source_from n) ≡ n
source_again zero h = refl
source_again (suc n) h = ap source_number (other n) ∙ type_again (suc n) (λ e. omega arith) h
  where
    other : (n : ℕ) → source_from (suc n) ≡ S.Archive (type_from (suc n))
    other n = simp (ne_eqb (suc n) 0 (λ e. omega arith))
