-- The kinds of archives, and where a reading came from, by their numbers.
-- Assumes nothing.
use Rattle.std.specs.Prelude.{ℕ, cond, eqb}
use Rattle.archive.specs.declared.ArchiveKind.{ArchiveKind}
use Rattle.archive.specs.declared.ArchiveKind.TheVariants as A
use Rattle.archive.specs.declared.Source.{Source}
use Rattle.archive.specs.declared.Source.TheVariants as S

-- "an archive request holds its archive kind (1 hourly, 2 daily, 3 monthly, 4 half-hourly)"
abbrev pub type_number : ArchiveKind → ℕ
type_number A.Hourly = 1
type_number A.Daily = 2
type_number A.Monthly = 3
type_number A.HalfHourly = 4

abbrev pub type_from : ℕ → ArchiveKind
type_from n = cond (eqb n 1) A.Hourly (cond (eqb n 2) A.Daily (cond (eqb n 3) A.Monthly A.HalfHourly))

-- "(0 current, 1 to 4 as in 01)"
abbrev pub source_number : Source → ℕ
source_number S.Current = 0
source_number (S.Archive kind) = type_number kind

abbrev pub source_from : ℕ → Source
source_from n = cond (eqb n 0) S.Current (S.Archive (type_from n))
