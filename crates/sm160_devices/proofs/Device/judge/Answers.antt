-- `sm160_devices::Device::judge` meets its contract.
use Rattle.wire.specs.Numbered.{refusal}
use Rattle.wire.proofs.Answer.{refuses, passes}
use Rattle.sm160_devices.proofs.Device.judge.Goals as goal

pub returns-then-bad_texts : goal.returns-then-bad_texts
unfolding refusal
returns-then-bad_texts c = search (refuses, passes) depth 12

pub returns-then-no_room : goal.returns-then-no_room
unfolding refusal
returns-then-no_room c = search (refuses, passes) depth 12

pub returns : goal.returns
returns c = search passes depth 12
