-- The stores of the writers, one after another, are the layout.
-- Assumes nothing.
use mathlib.Core.Path.{◌≡◌, sym, ap, ap₂, ◌∙◌}
use mathlib.Core.List.{List, [], ◌∷◌, ◌++◌, append_assoc, append-nil}
use Prim.Native.Nat.{ℕ, ◌+◌, ◌≤◌}
use native.Mathlib.Omega.{arith}
use lib.ListN.{length, take, set, length-append}
use lib.Seq.{sets}
use Rattle.wire.specs.Numbers.{le, over}
use Rattle.wire.proofs.Numbers.{length_le}
use Rattle.wire.proofs.Writing.{sets_append, sets_then}
use Rattle.sm160_datagram.specs.Layout.{opening_bytes, covered_bytes, closing_bytes}
use Rattle.sm160_datagram.proofs.Bytes.{length_datagram}
use Rattle.sm160_datagram.proofs.Stores.{length_opening, stored_datagram}
use Rattle.sm160_read_file.specs.Layout.{REQUEST, REPLY, text_bytes, request_options, reply_options}
use Rattle.sm160_read_file.specs.Writing.{request_bytes, reply_bytes}
use Rattle.sm160_read_file.proofs.Texts.{length_request, length_reply}

pub stored_text : (text out : List ℕ) (at : ℕ)
    → set (sets (sets out at (le 2 (length text))) (at + 2) text) (at + 2 + length text) 0 ≡ sets out at (text_bytes text)
unfolding text_bytes
stored_text text out at =
    let n = le 2 (length text) in
    let two : at + 2 ≡ at + length n = ap (λ (k : ℕ). at + k) (sym (length_le 2 (length text))) in
    let end : at + 2 + length text ≡ at + length (n ++ text) = omega (arith, length-append n text, length_le 2 (length text)) in
    ap₂ (λ (l : List ℕ) (k : ℕ). sets l k (0 ∷ [])) (ap (λ (k : ℕ). sets (sets out at n) k text) two ∙ sets_append out at n text) end
    ∙ sets_append out at (n ++ text) (0 ∷ [])
    ∙ ap (sets out at) (append_assoc n text (0 ∷ []))

-- two, and three, stores in turn behind what stands from the front
then_two : (out xs ys zs : List ℕ) (j k : ℕ) → length xs ≡ j → length (xs ++ ys) ≡ k → sets (sets (sets out 0 xs) j ys) k zs ≡ sets out 0 (xs ++ (ys ++ zs))
then_two out xs ys zs j k ej ek =
    ap (λ (l : List ℕ). sets l k zs) (sets_then out xs ys j ej) ∙ sets_then out (xs ++ ys) zs k ek ∙ ap (sets out 0) (append_assoc xs ys zs)

module _ (offset size : ℕ) (name out : List ℕ) where
  abbrev Q : List ℕ
  Q = request_options offset size name

  abbrev H : List ℕ
  H = opening_bytes REQUEST (length name + 19)

  pub stored_request :
      sets (sets (sets (sets out 0 H) 6 (le 8 offset)) 14 (le 8 size)) 22 (text_bytes name) ≡ sets out 0 (covered_bytes REQUEST Q [])
  unfolding covered_bytes request_options
  stored_request =
      let six = length_opening REQUEST (length name + 19) in
      let fourteen : length (H ++ le 8 offset) ≡ 14 = length-append H (le 8 offset) ∙ ap₂ (λ (x y : ℕ). x + y) six (length_le 8 offset) in
      let more : length (H ++ (le 8 offset ++ le 8 size)) ≡ 22 =
      length-append H (le 8 offset ++ le 8 size) ∙ ap₂ (λ (x y : ℕ). x + y) six (length-append (le 8 offset) (le 8 size) ∙ ap₂ (λ (x y : ℕ). x + y) (length_le 8 offset) (length_le 8 size)) in
      ap (λ (l : List ℕ). sets l 22 (text_bytes name)) (then_two out H (le 8 offset) (le 8 size) 6 14 six fourteen)
      ∙ sets_then out (H ++ (le 8 offset ++ le 8 size)) (text_bytes name) 22 more
      ∙ ap (sets out 0) (append_assoc H (le 8 offset ++ le 8 size) (text_bytes name))
      ∙ ap₂ (λ (h l : List ℕ). sets out 0 (h ++ l)) (ap (opening_bytes REQUEST) (sym (length_request offset size name)))
      (append_assoc (le 8 offset) (le 8 size) (text_bytes name) ∙ sym (append-nil (le 8 offset ++ (le 8 size ++ text_bytes name))))

  pub whole_request : length name + 37 ≤ length out
      → sets (sets out 0 (covered_bytes REQUEST Q [])) (length name + 25) (closing_bytes 0 (take (length name + 25) (sets out 0 (covered_bytes REQUEST Q []))))
      ≡ over out (request_bytes offset size name)
  whole_request room =
      let at : length Q + 0 + 6 ≡ length name + 25 = omega (arith, length_request offset size name) in
      ap (λ (k : ℕ). sets (sets out 0 (covered_bytes REQUEST Q [])) k (closing_bytes 0 (take k (sets out 0 (covered_bytes REQUEST Q []))))) (sym at)
      ∙ stored_datagram REQUEST Q [] out (omega (arith, length_request offset size name))

module _ (status : ℕ) (message content out : List ℕ) where
  abbrev P : List ℕ
  P = reply_options status message

  abbrev G : List ℕ
  G = opening_bytes REPLY (length message + 7)

  pub stored_reply :
      sets (sets (sets (sets out 0 G) 6 (le 4 status)) 10 (text_bytes message)) (length message + 13) content ≡ sets out 0 (covered_bytes REPLY P content)
  unfolding covered_bytes reply_options
  stored_reply =
      let six = length_opening REPLY (length message + 7) in
      let ten : length (G ++ le 4 status) ≡ 10 = length-append G (le 4 status) ∙ ap₂ (λ (x y : ℕ). x + y) six (length_le 4 status) in
      let more : length (G ++ P) ≡ length message + 13 = length-append G P ∙ omega (arith, six, length_reply status message) in
      ap (λ (l : List ℕ). sets l (length message + 13) content) (then_two out G (le 4 status) (text_bytes message) 6 10 six ten)
      ∙ sets_then out (G ++ P) content (length message + 13) more
      ∙ ap (sets out 0) (append_assoc G P content)
      ∙ ap (λ (h : List ℕ). sets out 0 (h ++ (P ++ content))) (ap (opening_bytes REPLY) (sym (length_reply status message)))

  pub whole_reply : length message + length content + 25 ≤ length out
      → sets (sets out 0 (covered_bytes REPLY P content)) (length message + length content + 13) (closing_bytes (length content) (take (length message + length content + 13) (sets out 0 (covered_bytes REPLY P content))))
      ≡ over out (reply_bytes status message content)
  whole_reply room =
      let at : length P + length content + 6 ≡ length message + length content + 13 = omega (arith, length_reply status message) in
      ap (λ (k : ℕ). sets (sets out 0 (covered_bytes REPLY P content)) k (closing_bytes (length content) (take k (sets out 0 (covered_bytes REPLY P content))))) (sym at)
      ∙ stored_datagram REPLY P content out (omega (arith, length_reply status message))

-- how long they are
pub request_length : (offset size : ℕ) (name : List ℕ) → length (request_bytes offset size name) ≡ length name + 37
request_length offset size name = length_datagram REQUEST (request_options offset size name) [] ∙ omega (arith, length_request offset size name)

pub reply_length : (status : ℕ) (message content : List ℕ) → length (reply_bytes status message content) ≡ length message + length content + 25
reply_length status message content = length_datagram REPLY (reply_options status message) content ∙ omega (arith, length_reply status message)
