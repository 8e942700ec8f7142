-- `unfolding everything` in a theorem opens all definitions of the crates below, so that it is proved by computing.
-- Defines nothing else.
use Rattle.std.proofs.Math.Bool.{xor}
use mathlib.Core.List.{flat_map, flatten}
use Rattle.std.specs.Prelude.{ℕ}
use Rattle.count.specs.Sum.{sum, count}
use Rattle.count.specs.Lists.{select, tally}
use Rattle.board.specs.Path.{turn, turns}
use Rattle.board.specs.Degree.{below_right, below_left, above_right, above_left, vertex?, edge?, degree, pins}
use Rattle.board_block.specs.Book.{pins_by}
use Rattle.board_block.specs.Block.{taken_at, pins_of}
use Rattle.board_block.specs.Taken.{in_order?, all_there?}
use Rattle.board_convex.specs.Test.{rows_fit, contains?, peels, in_limits, is_convex}
use Rattle.net.specs.Terminals.{terminals}
use Rattle.cut.specs.Cut.{edges, crosses, crossing, margin, overfull?, cuts, overfull_cuts}
use Rattle.cut.specs.Odd.{odd?, odd_vertices}
use Rattle.routing_rules.specs.Routing.{edges_from, trails, uses}
use Rattle.routing_rules.specs.Check.{path?, joins?, once?, routing?}
use Rattle.session_rules.specs.Session.{holds, insert, remove, net_of, recorded}
use Rattle.session_rules.specs.Add.{add_lines, add_refused, accepts}
use Rattle.session_rules.specs.NewRule.{over_new?, move_refused}
use Rattle.session_rules.specs.Machine.{lay, added, withdrawn, reversed, taken_back, stored, returned, moved, add_all_step, step, after, answers}
use Rattle.session_rules.specs.Sound.{rising?, addable?, liftable?, lifts?, all_fine?, sound?, call}
use Rattle.words.specs.BoardWord.{board_word, as_row, as_taken, as_net, as_end}
use Rattle.words.specs.RoutingWord.{routing_word, as_path, as_run, as_routing_end, runs_of, path_words, paths_words, routing_words}
use Rattle.words.specs.Bytes.{words_in, bytes_of}
use Rattle.call_rules.specs.Reading.{word_lines, take_words, add_listed, read_nets, pin_lines, read_parsed, read_words, read_bytes}
use Rattle.call_rules.specs.Writing.{board_words, write_board}
use Rattle.call_rules.specs.Shape.{words_refused, runs_from, paths_from}
use Rattle.call_rules.specs.Walk.{walk_steps, walk_runs, walk_path, walk_paths}
use Rattle.call_rules.specs.Report.{directions, edges_used, turns_made, turns_at, turns_of_each, turns_occurring, knock_knee, knock_knees, knock_knee_of_nets}
use Rattle.call_rules.specs.Alike.{among?, alike?, equally_many}
use Rattle.call_rules.specs.Judge.{judged, judge_words, compare_words, judge_bytes, compare_bytes}
use Rattle.call_rules.specs.Page.{on_line, below_line, text_line, page, draw_words, draw_bytes}
use Rattle.call_rules.specs.Editor.{editor_draw}
use Rattle.call_rules.specs.Route.{route_refused}
use Rattle.call_rules.specs.Wire.{crossing_sum, wire}
use Rattle.board_edges.specs.EdgeCount.{edges_going, edge_count}

unfoldable pub everything : ℕ
unfolding sum count select turn turns below_right below_left above_right above_left vertex? edge? degree pins pins_by taken_at pins_of in_order? all_there?
    rows_fit contains? peels in_limits is_convex
    terminals edges crosses crossing margin overfull? cuts overfull_cuts odd? odd_vertices edges_from trails uses path? joins? once? routing? holds
    insert remove net_of recorded add_lines add_refused accepts lay added withdrawn reversed taken_back stored returned over_new?
    move_refused moved add_all_step step
    rising? addable? liftable? lifts? all_fine? sound? call
    board_word as_row as_taken as_net as_end routing_word as_path as_run as_routing_end runs_of path_words paths_words routing_words words_in bytes_of word_lines
    take_words add_listed read_nets pin_lines read_parsed read_words read_bytes board_words write_board words_refused runs_from paths_from walk_steps walk_runs
    walk_path walk_paths directions edges_used turns_made turns_at tally turns_of_each turns_occurring knock_knee knock_knees knock_knee_of_nets among? alike?
    equally_many judged judge_words compare_words judge_bytes compare_bytes on_line below_line text_line page draw_words draw_bytes editor_draw route_refused
    edges_going edge_count crossing_sum wire
    after answers xor
    flat_map flatten
everything = 0
