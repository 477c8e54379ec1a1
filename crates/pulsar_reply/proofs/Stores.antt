-- The stores of the writer, one after another, are the layout.
-- Assumes nothing.
use mathlib.Core.Path.{◌≡◌, ap, ◌∙◌}
use mathlib.Core.List.{List}
use Prim.Native.Nat.{ℕ}
use lib.Seq.{sets}
use Rattle.wire.specs.Numbers.{le}
use Rattle.wire.proofs.Numbers.{length_le}
use Rattle.wire.proofs.Writing.{sets_then}
use Rattle.date.specs.Date.{date_bytes}
use Rattle.pulsar_reply.specs.Layout.{archive_bytes}
use Rattle.pulsar_reply.specs.declared.ArchiveReply.{ArchiveReply}

pub archive_stored : (out o₁ o₂ : List ℕ) (a : ArchiveReply) → o₁ ≡ sets out 0 (le 4 a.mask) → o₂ ≡ sets o₁ 4 (date_bytes a.first) → o₂ ≡ sets out 0 (archive_bytes a)
archive_stored out o₁ o₂ a e₁ e₂ =
    e₂ ∙ ap (λ (o : List ℕ). sets o 4 (date_bytes a.first)) e₁ ∙ sets_then out (le 4 a.mask) (date_bytes a.first) 4 (length_le 4 a.mask)
