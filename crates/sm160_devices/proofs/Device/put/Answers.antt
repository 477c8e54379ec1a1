-- `sm160_devices::Device::put` meets its contract.
use native.Mathlib.Omega.{arith}
use Rattle.sm160_devices.proofs.Stores.{device_length, stored_device}
use Rattle.sm160_devices.proofs.Device.put.Goals as goal

pub put_attribute-requires-2 : goal.put_attribute-requires-2
put_attribute-requires-2 c = omega (arith, device_length c.args.self.now.d.now c.args.self.now.k.now c.args.self.now.s.now)

pub overflow_add-third-2 : goal.overflow_add-third-2
overflow_add-third-2 c = omega (arith, device_length c.args.self.now.d.now c.args.self.now.k.now c.args.self.now.s.now)

pub put_attribute-requires-3 : goal.put_attribute-requires-3
put_attribute-requires-3 c = omega (arith, device_length c.args.self.now.d.now c.args.self.now.k.now c.args.self.now.s.now)

pub overflow_add-end : goal.overflow_add-end
overflow_add-end c = omega (arith, device_length c.args.self.now.d.now c.args.self.now.k.now c.args.self.now.s.now)

pub overflow_add-end-2 : goal.overflow_add-end-2
overflow_add-end-2 c = omega (arith, device_length c.args.self.now.d.now c.args.self.now.k.now c.args.self.now.s.now)

pub overflow_add-result : goal.overflow_add-result
overflow_add-result c = omega (arith, device_length c.args.self.now.d.now c.args.self.now.k.now c.args.self.now.s.now)

pub returns : goal.returns
returns c =
    let a = c.args in
    let t = a.self.now in
    (cc (stored_device t.d.now t.k.now t.s.now a.out.now), omega (arith, device_length t.d.now t.k.now t.s.now))
