-- The stores of the writer, one after another, are the layout.
-- Assumes nothing.
use mathlib.Core.Path.{◌≡◌, ap, ◌∙◌}
use mathlib.Core.List.{List, ◌++◌, append_assoc}
use Prim.Native.Nat.{ℕ}
use lib.ListN.{length, length-append}
use lib.Seq.{sets}
use Rattle.wire.specs.Numbers.{le}
use Rattle.wire.proofs.Numbers.{length_le}
use Rattle.wire.proofs.Writing.{sets_then}
use Rattle.archive.specs.Archive.{type_number}
use Rattle.date.specs.Date.{date_bytes}
use Rattle.pulsar_request.specs.Layout.{archive_bytes}
use Rattle.pulsar_request.specs.declared.ArchiveRequest.{ArchiveRequest}

pub archive_stored : (out o₁ o₂ o₃ o₄ : List ℕ) (a : ArchiveRequest) (t : ℕ)
    → o₁ ≡ sets out 0 (le 4 a.mask) → t ≡ type_number a.kind → o₂ ≡ sets o₁ 4 (le 2 t)
    → o₃ ≡ sets o₂ 6 (date_bytes a.first) → o₄ ≡ sets o₃ 12 (date_bytes a.last)
    → o₄ ≡ sets out 0 (archive_bytes a)
archive_stored out o₁ o₂ o₃ o₄ a t e₁ et e₂ e₃ e₄ =
    let m = le 4 a.mask in
    let k = le 2 (type_number a.kind) in
    let f = date_bytes a.first in
    let l = date_bytes a.last in
    let six : length (m ++ k) ≡ 6 = simp (length-append, length_le) in
    let twelve : length (m ++ k ++ f) ≡ 12 = simp (length-append, length_le) in
    let regroup : m ++ k ++ f ++ l ≡ m ++ (k ++ (f ++ l)) = simp append_assoc in
    let two : o₂ ≡ sets out 0 (m ++ k) = e₂ ∙ ap (λ (n : ℕ). sets o₁ 4 (le 2 n)) et ∙ ap (λ (o : List ℕ). sets o 4 k) e₁ ∙ sets_then out m k 4 (length_le 4 a.mask) in
    let three : o₃ ≡ sets out 0 (m ++ k ++ f) = e₃ ∙ ap (λ (o : List ℕ). sets o 6 f) two ∙ sets_then out (m ++ k) f 6 six in
    e₄ ∙ ap (λ (o : List ℕ). sets o 12 l) three ∙ sets_then out (m ++ k ++ f) l 12 twelve ∙ ap (sets out 0) regroup
