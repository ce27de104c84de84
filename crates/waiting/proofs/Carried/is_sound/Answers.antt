-- `is_sound` tests the landings one by one. Assumes nothing.
use Rattle.std.proofs.Common.{◌≡◌, length, rules}
use Rattle.waiting.proofs.Landings.{lamps_beyond, last_beyond, none_tested, one_sound, one_unsound, all_sound}
use Rattle.waiting.proofs.Carried.is_sound.Goals as goal
use Rattle.waiting.proofs.Carried.is_sound.Goals.{then-self-gt-VALUE_MOST-via-then-self-gt-VALUE_MOST, then-self-gt-VALUE_MOST-via-else-self-gt-VALUE_MOST+then-self-gt-FIGURE_MOST}

pub returns-then-self-gt-VALUE_MOST : goal.returns-then-self-gt-VALUE_MOST
returns-then-self-gt-VALUE_MOST c =
    elim c.then-self-gt-VALUE_MOST.branch [
      | then-self-gt-VALUE_MOST-via-then-self-gt-VALUE_MOST w ↦ lamps_beyond _ w.if-self-gt-VALUE_MOST.true
      | then-self-gt-VALUE_MOST-via-else-self-gt-VALUE_MOST+then-self-gt-FIGURE_MOST w ↦ last_beyond _ w.if-self-gt-FIGURE_MOST.true
    ]

pub loop-i-init : goal.loop-i-init
loop-i-init c =
    let four : length c.args.self.landings ≡ 4 = search rules in
    none_tested _ four c.if-self-gt-VALUE_MOST.false c.if-self-gt-FIGURE_MOST.false

pub returns-then-not-is_sound : goal.returns-then-not-is_sound
returns-then-not-is_sound c = one_unsound _ _ _ c.loop-i.invariant c.loop-i-test.true c.lamp.ensures c.is_sound.ensures c.if-not-is_sound.true

pub loop-i-preserved : goal.loop-i-preserved
loop-i-preserved c = one_sound _ _ _ c.loop-i.invariant c.loop-i-test.true c.lamp.ensures c.is_sound.ensures c.if-not-is_sound.false

pub returns : goal.returns
returns c = all_sound _ _ c.loop-i.invariant c.loop-i-test.false
