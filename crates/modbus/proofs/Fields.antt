-- Address, function and data, once for every envelope, over its head and tail: of plain bytes that were written, and of those that were read.
-- Assumes nothing.
use mathlib.Core.Path.{◌≡◌, sym, ap, ap₂, ◌∙◌}
use mathlib.Core.List.{List, [], ◌∷◌, ◌++◌, append_assoc}
use Prim.Native.Nat.{ℕ, suc, ◌+◌, ◌-◌, ◌≤◌}
use native.Mathlib.Numerals.{add-one}
use native.Mathlib.Omega.{arith}
use lib.ListN.{length, get_or, take, drop, length-append, length-drop, take-append-drop}
use lib.Seq.{get_or_at, take_at, drop_at, drop-cons, drop-drop, take_all, length-take-le}
use borrow.Author.Tests.{le-ltb, ltb-false}
use Rattle.wire.specs.Numbers.{field, over}
use Rattle.wire.specs.Refusal.{Rule}
use Rattle.std.specs.Prelude.{Ok}
use Rattle.wire.specs.Writes.{Written}
use Rattle.wire.proofs.Fields.{field_take}
use Rattle.wire.proofs.Rules.{first_none, none_first}
use Rattle.wire.proofs.Writes.{wrote_front, wrote_all}
use Rattle.modbus.specs.Envelope.{Message, Envelope, message, content_of, enveloped, bytes_of, address_of, function_of, data_of, write_rules, WritesEnvelope}

-- ---- what was written
module _ (head tail : List ℕ) (before after : ℕ) (hb : length head ≡ before) (ha : length tail ≡ after) (a f : ℕ) (d : List ℕ) where
  abbrev S : List ℕ
  S = enveloped head (content_of (message a f d)) tail

  pub written_length : length S ≡ before + 2 + length d + after
  written_length = simp length-append (omega arith)

  pub written_address : address_of before S ≡ a
  written_address = get_or_at head a (f ∷ (d ++ tail)) 0 before hb

  pub written_function : function_of before S ≡ f
  written_function =
      let one : length (head ++ (a ∷ [])) ≡ before + 1 = simp length-append (omega arith) in
      ap (λ (s : List ℕ). function_of before s) (sym (append_assoc head (a ∷ []) (f ∷ (d ++ tail))))
      ∙ get_or_at (head ++ (a ∷ [])) f (d ++ tail) 0 (before + 1) one

  pub written_data : data_of before after S ≡ d
  written_data =
      let pair : List ℕ = a ∷ f ∷ [] in
      let k = length S - (before + 2 + after) in
      let two : length (head ++ pair) ≡ before + 2 = simp length-append (omega arith) in
      let rest : length d ≡ k = omega (arith, written_length) in
      ap (λ (s : List ℕ). take k (drop (before + 2) s)) (sym (append_assoc head pair (d ++ tail)))
      ∙ ap (take k) (drop_at (head ++ pair) (d ++ tail) (before + 2) two)
      ∙ take_at d tail k rest

-- ---- what was read
module _ (before after : ℕ) (s : List ℕ) (least : before + 2 + after ≤ length s) where
  abbrev pub Read : List ℕ
  Read = content_of (message (address_of before s) (function_of before s) (data_of before after s))

  pub read_message : Read ≡ take (length s - (before + after)) (drop before s)
  read_message =
      let k = length s - (before + 2 + after) in
      let e : length s - (before + after) ≡ suc (suc k) = omega (arith, least) in
      let two : before + 2 ≡ suc (suc before) = omega arith in
      let first_byte : drop before s ≡ get_or s before 0 ∷ drop (suc before) s = drop-cons s before 0 (omega (arith, least)) in
      let second-byte : drop (suc before) s ≡ get_or s (suc before) 0 ∷ drop (suc (suc before)) s = drop-cons s (suc before) 0 (omega (arith, least)) in
      ap₂ (λ (i j : ℕ). get_or s before 0 ∷ get_or s i 0 ∷ take k (drop j s)) (add-one before) two
      ∙ ap (λ (l : List ℕ). take (suc (suc k)) (get_or s before 0 ∷ l)) (sym second-byte)
      ∙ ap (take (suc (suc k))) (sym first_byte)
      ∙ ap (λ (n : ℕ). take n (drop before s)) (sym e)

  -- with the head and the tail that stand there it is the bytes received
  pub read_again : (head tail : List ℕ) → head ≡ take before s → tail ≡ drop (length s - after) s → enveloped head Read tail ≡ s
  read_again head tail eh et =
      let n = length s - (before + after) in
      let e : length s - after ≡ before + n = omega (arith, least) in
      ap₂ (λ (h t : List ℕ). enveloped h Read t) eh (et ∙ ap (λ (k : ℕ). drop k s) e ∙ sym (drop-drop n before s))
      ∙ ap (λ (m : List ℕ). take before s ++ (m ++ drop n (drop before s))) read_message
      ∙ ap (λ (l : List ℕ). take before s ++ l) (take-append-drop n (drop before s))
      ∙ take-append-drop before s

  pub read_length : length (data_of before after s) + (before + 2 + after) ≡ length s
  read_length =
      let k = length s - (before + 2 + after) in
      let within : k ≤ length (drop (before + 2) s) = rw length-drop (omega (arith, least)) in
      omega (arith, least, length-take-le k (drop (before + 2) s) within)

  -- the last bytes, as a field
  pub read_tail : field s (length s - after) after ≡ drop (length s - after) s
  read_tail =
      let at : length s - after + after ≤ length s = omega (arith, least) in
      let all : length (drop (length s - after) s) ≤ after = rw length-drop (omega (arith, least)) in
      field_take s (length s - after) after at ∙ take_all after (drop (length s - after) s) all

-- ---- what a writer owes
module _ (e : Envelope) (m : Message) (out : List ℕ) (r : Written) (out' : List ℕ) (w : WritesEnvelope e m out r out') where
  abbrev rules : List Rule
  rules = write_rules m.«data» (length (bytes_of e m)) out

  -- an answered length: the data is no longer than 252, and the output begins with the envelope, so long
  pub written_front : (k : ℕ) → r ≡ Ok k → (length m.«data» ≤ 252) × (take k out' ≡ bytes_of e m)
  written_front k q =
      let front = wrote_front _ (bytes_of e m) out r out' k w q in
      (ltb-false 252 (length m.«data») (none_first rules tt front.0).0, front.1)

  -- data of up to 252 bytes, and an output with room: it is written
  pub written_whole : length m.«data» ≤ 252 → length (bytes_of e m) ≤ length out → (r ≡ Ok (length (bytes_of e m))) × (out' ≡ over out (bytes_of e m))
  written_whole small room =
      wrote_all _ (bytes_of e m) out r out' w
      (first_none rules (le-ltb 252 (length m.«data») small, (le-ltb (length out) (length (bytes_of e m)) room, tt)))
