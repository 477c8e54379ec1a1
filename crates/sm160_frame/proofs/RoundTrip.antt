-- The round trips.
-- Assumes nothing.
use mathlib.Core.Path.{◌≡◌, sym, ap, ◌∙◌, subst}
use mathlib.Core.Bool.{false}
use mathlib.Core.List.{List}
use Prim.Native.Nat.{ℕ, ◌+◌, ◌<◌, ◌≤◌}
use native.Mathlib.Omega.{arith}
use lib.ListN.{length, take}
use borrow.Author.Tests.{le-ltb}
use Rattle.wire.specs.Each.{Bytes}
use Rattle.wire.specs.Numbers.{over}
use Rattle.wire.specs.Refusal.{first}
use Rattle.std.specs.Prelude.{Ok}
use Rattle.wire.specs.Writes.{Written}
use Rattle.wire.proofs.Answer.{judged_none, accepted_as}
use Rattle.wire.proofs.Rules.{first_none, none_first}
use Rattle.wire.proofs.Writes.{wrote_front, wrote_all}
use Rattle.sm160_frame.specs.Layout.{frame_bytes, part_of}
use Rattle.sm160_frame.specs.Reading.{LARGEST, bad_flags, frame_rules, frame_fault, fields_of, read_frame}
use Rattle.sm160_frame.specs.Writing.{write_rules, WritesFrame}
use Rattle.sm160_frame.specs.declared.Fields.{Fields}
use Rattle.sm160_frame.proofs.Stores.{length_frame, small_part}
use Rattle.sm160_frame.proofs.Bytes.{small_flags, made_session, made_offset, made_flags, made_part, made_good, read_bytes}

-- What is written reads back: where the writer of these fields answers a length, the bytes of that length are read as the same fields,
-- and their part is the part.
pub frame_reads_back : (session offset flags : ℕ) (part out : List ℕ) (r : Written) (out' : List ℕ) (n : ℕ)
    → session < 65536 → offset < 4294967296 → Bytes part
    → WritesFrame session offset flags part out r out' → r ≡ Ok n
    → (read_frame (take n out') ≡ Ok (record { session = session; offset = offset; flags = flags })) × (part_of (take n out') ≡ part)
unfolding read_frame
frame_reads_back session offset flags part out r out' n hs ho hp w e =
    let bs = frame_bytes session offset flags part in
    let done = wrote_front (first (write_rules flags part out)) bs out r out' n w e in
    let good = none_first (write_rules flags part out) tt done.0 in
    let few = small_flags flags good.1.0 in
    let es = made_session session offset flags part hs in
    let eo = made_offset session offset flags part ho in
    let ef = made_flags session offset flags part (omega arith) in
    let fields : fields_of bs ≡ record { session = session; offset = offset; flags = flags } = cc in (
      ap read_frame done.1 ∙ judged_none (fields_of bs) (frame_fault LARGEST bs) (made_good session offset flags part LARGEST (omega (arith, small_part LARGEST part good.0)) hp good.0 good.1.0) ∙ ap Ok fields,
      ap part_of done.1 ∙ made_part session offset flags part,
    )

-- what reading has found where it answers fields
accepted : (s : List ℕ) (f : Fields) → read_frame s ≡ Ok f → (frame_fault LARGEST s ≡ 0) × (fields_of s ≡ f)
unfolding read_frame
accepted s f e = accepted_as (fields_of s) _ f e

-- What is accepted, written again by its fields where there is room, gives the same bytes.
pub frame_writes_again : (s out : List ℕ) (f : Fields) (r : Written) (out' : List ℕ) → Bytes s → read_frame s ≡ Ok f → length s ≤ length out
    → WritesFrame f.session f.offset f.flags (part_of s) out r out' → (r ≡ Ok (length s)) × (out' ≡ over out s)
unfolding frame_fault
frame_writes_again s out f r out' bytes e room w =
    let ok = accepted s f e in
    let h = none_first (frame_rules LARGEST s) tt ok.0 in
    let bs = frame_bytes f.session f.offset f.flags (part_of s) in
    let same : bs ≡ s = subst (λ (g : Fields). frame_bytes g.session g.offset g.flags (part_of s) ≡ s) ok.1 (read_bytes s bytes LARGEST ok.0) in
    let flags : bad_flags f.flags ≡ false = ap (λ (g : Fields). bad_flags g.flags) (sym ok.1) ∙ h.1.1.1.1.0 in
    let long : length (part_of s) + 12 ≡ length s = sym (length_frame f.session f.offset f.flags (part_of s)) ∙ ap length same in
    let none = first_none (write_rules f.flags (part_of s) out) (h.1.1.0, (flags, (le-ltb (length out) (length (part_of s) + 12) (omega arith), tt))) in
    subst (λ (l : List ℕ). (r ≡ Ok (length l)) × (out' ≡ over out l)) same (wrote_all (first (write_rules f.flags (part_of s) out)) bs out r out' w none)
