-- `adi_request::asked_of` meets its contract.
use mathlib.Core.Path.{◌≡◌}
use native.Mathlib.Omega.{arith}
use Rattle.wire.specs.Numbers.{number, of_be, field}
use Rattle.adi_request.specs.Layout.{file_of, record_of, length_of}
use Rattle.adi_request.proofs.asked_of.Goals as goal

pub returns : goal.returns
unfolding of_be number field
returns c =
    let g = c.args.group.now in
    let file : c.from_be_bytes.result ≡ file_of g = omega arith in
    let number : c.from_be_bytes-2.result ≡ record_of g = omega arith in
    let length : c.from_be_bytes-3.result ≡ length_of g = omega arith in
    cc
