-- The Pulsar-M frame.
-- Assumes nothing.
use Rattle.std.specs.Prelude.{ℕ, ◌+◌, ◌-◌, List, [], ◌∷◌, ◌++◌, length, get_or, take, drop}
use Rattle.checksum.specs.Crc.{crc}
use Rattle.wire.specs.Numbers.{bcd, le, of_bcd, of_le, field}

-- ---- the bytes from the fields

-- "ADDRESS 4 bytes BCD, most significant first; FN 1; LEN 1; PAYLOAD 0 to 245; ID 2; CRC 2. LEN counts the whole frame, 10 to 255. Except
-- ADDRESS, many-byte fields are least significant first. CRC covers all before it." "It is sent low byte first."
unfoldable pub frame_body : ℕ → ℕ → ℕ → List ℕ → List ℕ
frame_body address function id payload = bcd 4 address ++ ((function ∷ (length payload + 10) ∷ []) ++ (payload ++ le 2 id))

unfoldable pub frame_bytes : ℕ → ℕ → ℕ → List ℕ → List ℕ
frame_bytes address function id payload =
    frame_body address function id payload ++ le 2 (crc (frame_body address function id payload))

-- ---- the fields of the bytes received: "ADDRESS 4 bytes BCD, most significant first; FN 1; LEN 1"
abbrev pub address_of : List ℕ → ℕ
address_of s = of_bcd (field s 0 4)

abbrev pub function_of : List ℕ → ℕ
function_of s = get_or s 4 0

abbrev pub len_of : List ℕ → ℕ
len_of s = get_or s 5 0

-- found from LEN: "PAYLOAD 0 to 245; ID 2; CRC 2"; "Bytes received beyond LEN are ignored."
abbrev pub payload_of : List ℕ → ℕ → List ℕ
payload_of s len = take (len - 10) (drop 6 s)

abbrev pub id_of : List ℕ → ℕ
id_of s = of_le (field s (len_of s - 4) 2)

abbrev pub crc_of : List ℕ → ℕ
crc_of s = of_le (field s (len_of s - 2) 2)

-- "CRC covers all before it."
abbrev pub covered_of : List ℕ → List ℕ
covered_of s = take (len_of s - 2) s
