-- Definitions open one at a time: a proof that says `unfolding f` sees the text of f and of nothing below it.
-- A sample computes all the way down, and says `unfolding computing`.
use Rattle.std.specs.Prelude.{ℕ}
use Rattle.std.specs.Float.Ieee.{add, sub, mul, div, neg, lt, le, eq, is_nan, of_int, of_bits, to_bits}
use Rattle.rounding.specs.Root.{root, hypot}
use Rattle.rounding.specs.Extremes.{minimum, maximum}
use Rattle.scope.specs.Numbers.{e_6, e_9, e_10, e_12, golden, abs, raised}
use Rattle.scope.specs.Runs.{tab, gather, in_turn, many, least, some_below, any, bit, filled}
use Rattle.shapes.specs.Limits.{smallest_radius, largest_radius, smallest_normal}
use Rattle.shapes.specs.Lift.{lift}
use Rattle.scope.specs.Limits.{circle_cap, region_cap, point_cap, input_cap, within, coordinate_ok, radius_ok, factor_ok, side_ok, padding_ok, proportion_ok, price_ok}
use Rattle.scope.specs.Refusals.{causes, cause_holds, first, refusal, front_to_back, answer, too_many, unequal, too_many_regions, bad_point, bad_centre, bad_radius, rising, bad_factor, bad_side, bad_padding, repeated, inks, same_ink, points_refusal, pair_refusal, circle_point_refusal, circles_refusal, regions_refusal, columns_refusal, pack_refusal, container_refusal, card_refusal, layout_refusal, too_short, bad_proportion, bad_price, too_many_points, too_few_answers, stock_refusal, touch_refusal, writer_refusal, text_refusal}
use Rattle.scope.specs.Distance.{no_root, root_refusal, root_answer, distance, contains, contains_point, intersects, circle_distance, distance_answer, circle_distance_answer, contains_answer, contains_point_answer, intersects_answer}
use Rattle.scope.specs.Links.{regions, counts, share, linked_by_regions, nowhere, overlap, linked_by_circles}
use Rattle.scope.specs.Closure.{marked, pass, passes, closure}
use Rattle.scope.specs.PackedRows.{packed_row, unpacked_row, packed_words, joined_words}
use Rattle.scope.specs.Groups.{leader, leads, number, clusters_of, clusters, plain_clusters, grouping, area_grouping, plain_grouping}
use Rattle.scope.specs.Tolerance.{no_region, largest, tolerance}
use Rattle.scope.specs.Offset.{total, area_with_mask, other_bits, contained_child_parent, smaller, if_smaller, parent_of, is_parent, parents, only_child, translated, magnitude, diagonal, move, child_at, contains_at, doubled, halved, doublings, halvings, max_contained_offset, direction, blocked, there, repositioned, replaced, tried, offset}
use Rattle.scope.specs.Gauge.{changed, level, turn, rotated, turned, nothing, centres_box, mirror_x, mirror_y, mirrored_x, mirrored_y, mirrored, rotate_cluster, gauged}
use Rattle.scope.specs.Packing.{columns, rows, columns_answer, before, place, breadth, start, centred, placed, no_rectangle, rectangle_area, places, placed_centre, packed, packing, skyline_pack}
use Rattle.scope.specs.Padding.{box_all, as_rectangle, boxes, padding, shift, shifted, pack_clusters}
use Rattle.scope.specs.Centring.{all_translated, centred_layout}
use Rattle.scope.specs.Layout.{arranged, refused_layout, if_accepted, layout}
use Rattle.scope.specs.Container.{reaches_past, centred_in, settled, contained_answer, contained}
use Rattle.scope.specs.CardStock.{wide, tall, started_hundreds, stock_for, charged, card_stock}
use Rattle.scope.specs.Touch.{touch_mask, touching, counted_touch, touched}
use Rattle.scope.specs.Twins.{counted_grouping, first_packing, first_layout, first_contained, first_written, first_stock, first_touched}
use Rattle.scope.specs.CardFile.{little_endian, float_of, pattern_of, word, short_word, stated_length, length_of_body, body, head_cut, body_cut, unknown, wrong_length, circle_from, field_of, field_refusal, read_field, field_body, with_field, misplaced, next_refusal, or_refused, fields, first_refusal, read_file, valued, read_card}
use Rattle.scope.specs.Text.{bytes}
use Rattle.scope.specs.Print.{decimal, hex_digit, hexadecimal, sixteen_digits, bits_of, float, line, printed, refused_text, answer_text, card_text}
use Rattle.scope.specs.Saving.{low_bytes, field, factor_body, circle_body, region_body, circle_fields, region_fields, file_of, saving, write_card, write_text}

unfoldable pub computing : ℕ
unfolding add sub mul div neg lt le eq is_nan of_int of_bits to_bits root hypot minimum maximum e_6 e_9 e_10 e_12 golden abs raised tab gather in_turn many least some_below any bit filled smallest_radius largest_radius smallest_normal lift circle_cap region_cap point_cap input_cap within coordinate_ok radius_ok factor_ok side_ok padding_ok proportion_ok price_ok causes cause_holds first refusal front_to_back answer too_many unequal too_many_regions bad_point bad_centre bad_radius rising bad_factor bad_side bad_padding repeated inks same_ink points_refusal pair_refusal circle_point_refusal circles_refusal regions_refusal columns_refusal pack_refusal container_refusal card_refusal layout_refusal too_short bad_proportion bad_price too_many_points too_few_answers stock_refusal touch_refusal writer_refusal text_refusal no_root root_refusal root_answer distance contains contains_point intersects circle_distance distance_answer circle_distance_answer contains_answer contains_point_answer intersects_answer regions counts share linked_by_regions nowhere overlap linked_by_circles marked pass passes closure packed_row unpacked_row packed_words joined_words leader leads number clusters_of clusters plain_clusters grouping area_grouping plain_grouping no_region largest tolerance total area_with_mask other_bits contained_child_parent smaller if_smaller parent_of is_parent parents only_child translated magnitude diagonal move child_at contains_at doubled halved doublings halvings max_contained_offset direction blocked there repositioned replaced tried offset changed level turn rotated turned nothing centres_box mirror_x mirror_y mirrored_x mirrored_y mirrored rotate_cluster gauged columns rows columns_answer before place breadth start centred placed no_rectangle rectangle_area places placed_centre packed packing skyline_pack box_all as_rectangle boxes padding shift shifted pack_clusters all_translated centred_layout arranged refused_layout if_accepted layout reaches_past centred_in settled contained_answer contained wide tall started_hundreds stock_for charged card_stock touch_mask touching counted_touch touched counted_grouping first_packing first_layout first_contained first_written first_stock first_touched little_endian float_of pattern_of word short_word stated_length length_of_body body head_cut body_cut unknown wrong_length circle_from field_of field_refusal read_field field_body with_field misplaced next_refusal or_refused fields first_refusal read_file valued read_card bytes decimal hex_digit hexadecimal sixteen_digits bits_of float line printed refused_text answer_text card_text low_bytes field factor_body circle_body region_body circle_fields region_fields file_of saving write_card write_text
computing = 0
