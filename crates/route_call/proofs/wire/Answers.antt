-- `wire` starts from the table of the nets' pairs and then the helper pairs.
use Rattle.std.proofs.Common.{take}
use Rattle.net_places.proofs.NetsLaws.{pairs-of}
use Rattle.session.specs.View.{session_of}
use Rattle.session_laws.proofs.Exact.{sound_exact}
use Rattle.router_start.specs.TableLaws.{kept_on, puts_fill}
use Rattle.route_call.specs.Filled.{blank_notes}
use Rattle.route_call.specs.Starting.{clear_zeros, helped-rows, helped-filled}
use Rattle.route_call.proofs.wire.Goals as goal

pub fill_table-n-requires : goal.fill_table-n-requires
fill_table-n-requires c = clear_zeros

pub fill_helpers-all-requires : goal.fill_helpers-all-requires
fill_helpers-all-requires c =
    let s = c.args.s in helped-rows (session_of s) c.args.helpers c.requires.helped _ (pairs-of s.nets) _ c.fill_table-n.ensures.fills.0.count

pub wire_table-requires : goal.wire_table-requires
wire_table-requires c =
    let s = c.args.s in let r = c.args.helpers in let H = c.requires.helped in
    let nets = c.fill_table-n.ensures.fills in
    let put = c.fill_helpers-all.ensures in
    let room = helped-rows (session_of s) r H _ (pairs-of s.nets) _ nets.0.count in
    record {
      sound = (
        (sound_exact (session_of s)).0 H.sound,
        helped-filled (session_of s) r H _ (pairs-of s.nets) c.fill_helpers-all.new.table c.fill_helpers-all.new.notes (rw put.value room) (
          puts_fill (take r.count r.pairs) _ room put.puts_on.0 clear_zeros nets.0,
          kept_on blank_notes c.fill_table-n.new.notes c.fill_helpers-all.new.notes nets.1 put.puts_on.1,
        ),
      );
      s_in_bounds = c.requires.s_in_bounds;
    }
