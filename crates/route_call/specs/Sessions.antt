-- The nets of a sound session are a problem for the theorem, over the pin count of its block.
-- Assumes a sound session.
use Rattle.session_laws.proofs.Stays.{sound_fine}
use Rattle.board_block.specs.Block.{pins_of}
use Rattle.board_block.proofs.Pins.{pins_below}
use Rattle.session_rules.specs.Session.{Session, pairs}
use Rattle.session_rules.specs.Sound.{Sound}
use Rattle.corner.specs.Problem.{Problem}
use Rattle.corner.proofs.Counted.{pins-stand, pins-never-above}

pub problem_of : (s : Session) → Sound s → Problem s.block.board (pins_of s.block) (pairs s.nets)
problem_of s S = record {
  within = S.within;
  convex = S.convex;
  never_above = pins-never-above s.block.board (pins_of s.block) (pins_below s.block);
  stand = pins-stand s.block.board (pins_of s.block) (pins_below s.block) (pairs s.nets) (sound_fine s S).room;
  room = λ v h. (sound_fine s S).room v;
}
