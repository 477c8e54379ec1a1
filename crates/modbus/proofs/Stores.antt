-- The stores of the writers, one after another, are the layouts.
-- Assumes nothing.
use mathlib.Core.Path.{◌≡◌, sym, ap, ◌∙◌}
use mathlib.Core.List.{List, ◌++◌, append_assoc, append-nil}
use Prim.Native.Nat.{ℕ, ◌+◌, ◌≤◌}
use native.Mathlib.Omega.{arith}
use lib.ListN.{length, take, length-append}
use lib.Seq.{sets}
use Rattle.checksum.specs.Crc.{crc}
use Rattle.wire.specs.Numbers.{be, le}
use Rattle.wire.proofs.Numbers.{length_be, length_le}
use Rattle.wire.proofs.Writing.{sets_then, take_sets}
use Rattle.modbus.specs.Envelope.{message, content_of, bytes_of}
use Rattle.modbus.specs.Rtu.{rtu}
use Rattle.modbus.specs.Tcp.{tcp_head, tcp}

module _ (a f : ℕ) (d : List ℕ) where
  abbrev Content : List ℕ
  Content = content_of (message a f d)

  pub length_rtu : length (bytes_of rtu (message a f d)) ≡ length d + 4
  unfolding bytes_of
  length_rtu = simp (length-append, length_le) (omega arith)

  pub covered_rtu : (out : List ℕ) → length d + 4 ≤ length out → take (length d + 2) (sets out 0 Content) ≡ Content
  covered_rtu out h =
      let e : length Content ≡ length d + 2 = omega arith in
      ap (λ (k : ℕ). take k (sets out 0 Content)) (sym e) ∙ take_sets out Content (omega arith)

  pub stored_rtu : (out : List ℕ) → sets (sets out 0 Content) (length d + 2) (le 2 (crc Content)) ≡ sets out 0 (bytes_of rtu (message a f d))
  unfolding bytes_of
  stored_rtu out = sets_then out Content (le 2 (crc Content)) (length d + 2) (omega arith)

pub length_head : (t n : ℕ) → length (tcp_head t n) ≡ 6
unfolding tcp_head
length_head t n = simp (length-append, length_be)

module _ (t u f : ℕ) (d : List ℕ) where
  abbrev Inner : List ℕ
  Inner = content_of (message u f d)

  pub length_tcp : length (bytes_of (tcp t) (message u f d)) ≡ length d + 8
  unfolding bytes_of
  length_tcp = simp (length-append, length_head) (omega arith)

  pub stored_tcp : (out : List ℕ)
      → sets (sets (sets (sets out 0 (be 2 t)) 2 (be 2 0)) 4 (be 2 (length d + 2))) 6 Inner ≡ sets out 0 (bytes_of (tcp t) (message u f d))
  unfolding bytes_of tcp_head
  stored_tcp out =
      let n = length d + 2 in
      let four : length (be 2 t ++ be 2 0) ≡ 4 = simp (length-append, length_be) in
      let six : length (be 2 t ++ be 2 0 ++ be 2 n) ≡ 6 = simp (length-append, length_be) in
      let same : n ≡ length Inner = omega arith in
      let regroup : be 2 t ++ be 2 0 ++ be 2 n ++ Inner ≡ bytes_of (tcp t) (message u f d) =
      ap (λ (k : ℕ). be 2 t ++ be 2 0 ++ be 2 k ++ Inner) same ∙ simp (append_assoc, append-nil) in
      ap (λ (l : List ℕ). sets (sets l 4 (be 2 n)) 6 Inner) (sets_then out (be 2 t) (be 2 0) 2 (length_be 2 t))
      ∙ ap (λ (l : List ℕ). sets l 6 Inner) (sets_then out (be 2 t ++ be 2 0) (be 2 n) 4 four)
      ∙ sets_then out (be 2 t ++ be 2 0 ++ be 2 n) Inner 6 six
      ∙ ap (sets out 0) regroup
