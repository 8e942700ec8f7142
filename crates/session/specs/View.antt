-- Definitions only: the session of the list machine that a value of the code's struct stands for. Nothing is proved here.
use Rattle.std.specs.Prelude.{◌≡◌, length}
use Rattle.board_block.specs.View.{block_of}
use Rattle.session_rules.specs.Session.{Session}
use Rattle.net_places.specs.Places.{nets_of}
use Rattle.session_pile.specs.Pile.{pile_of}
use Rattle.session_names.specs.Names.{kept_of}
use Rattle.session.specs.declared.Session as code

abbrev pub session_of : code.Session → Session
session_of s = record { block = block_of s.block; nets = nets_of s.nets; pile = pile_of s.pile; names = kept_of s.names }

-- the arrays of nets and changes have 64 places
pub record Sized (s : code.Session) : Type 0 where
  pub nets64 : length s.nets ≡ 64
  pub pile64 : length s.pile.changes ≡ 64
