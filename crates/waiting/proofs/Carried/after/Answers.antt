-- `after` changes the landings one by one. Assumes nothing.
use native.Mathlib.Omega.{arith}
use Rattle.waiting.proofs.Landings.{one_changed, all_changed}
use Rattle.waiting.proofs.Carried.after.Goals as goal

pub loop-i-preserved : goal.loop-i-preserved
loop-i-preserved c =
    one_changed _ _ _ _ _ c.loop-i.landing-items _ c.loop-i.invariant (omega (arith, c.requires.four)) c.lamp.ensures c.lamp-in-loop-i.ensures c.after.ensures

pub returns : goal.returns
returns c = all_changed _ _ _ _ _ c.lamps_after-lamps.ensures c.loop-i.invariant (omega (arith, c.requires.four))
