-- The PDU that is handed back of an envelope: the function and the data of the message that it carries.
-- Assumes nothing.
use mathlib.Core.Path.{◌≡◌, ap, ap₂, ◌∙◌}
use mathlib.Core.List.{List, ◌∷◌}
use Prim.Native.Nat.{ℕ, suc, ◌+◌, ◌-◌, ◌≤◌, ◌<◌}
use native.Mathlib.Omega.{arith}
use lib.ListN.{length, take, drop}
use lib.Seq.{drop-cons}
use borrow.Author.Tests.{ltb-false}
use Rattle.modbus.specs.Envelope.{Message, function_of, data_of, pdu_of}
use Rattle.modbus.specs.Promise.{Carries}
use Rattle.modbus.specs.Rtu.{rtu, rtu_rules, rtu_pdu}
use Rattle.modbus.specs.Tcp.{tcp, tcp_rules, tcp_pdu}

function_then_data : (before after : ℕ) (s : List ℕ) → before + 2 + after ≤ length s → pdu_of before after s ≡ function_of before s ∷ data_of before after s
function_then_data before after s h =
    let within : before + 1 < length s = omega arith in
    let next : suc (before + 1) ≡ before + 2 = omega arith in
    let one : length s - (before + 1 + after) ≡ suc (length s - (before + 2 + after)) = omega arith in
    ap₂ (λ (n : ℕ) (l : List ℕ). take n l) one (drop-cons s (before + 1) 0 within)
    ∙ ap (λ (k : ℕ). function_of before s ∷ take (length s - (before + 2 + after)) (drop k s)) next

pub rtu_pdu_carried : (s : List ℕ) (m : Message) → Carries rtu rtu_rules s m → rtu_pdu s ≡ m.function ∷ m.«data»
rtu_pdu_carried s m c =
    function_then_data 0 2 s (ltb-false (length s) 4 c.accepted.0) ∙ ap (λ (x : Message). x.function ∷ x.«data») c.says

pub tcp_pdu_carried : (transaction : ℕ) (s : List ℕ) (m : Message) → Carries (tcp transaction) tcp_rules s m → tcp_pdu s ≡ m.function ∷ m.«data»
tcp_pdu_carried transaction s m c =
    function_then_data 6 0 s (ltb-false (length s) 8 c.accepted.0) ∙ ap (λ (x : Message). x.function ∷ x.«data») c.says
