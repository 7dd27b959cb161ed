-- Every row of the table of examples holds of the calls as they are defined: by computing the definitions, and the four cases of a reason by what they ask.
use Rattle.std.specs.Prelude.{◌≡◌, refl, true, List, ℕ, zero, suc, ◌<◌, length, drop}
use Rattle.std.proofs.Common.{sym, arith}
use Rattle.std.specs.Float.Ieee.{of_bits}
use Rattle.whole.specs.Order.{lesser, greater}
use Rattle.whole.specs.IndexedSum.{sum_to}
use Rattle.whole.specs.IndexedTotal.{total_to}
use Rattle.terms.specs.Tests.{count, every, keep, all_to, any_to, lowest_to, rising}
use Rattle.terms.specs.Lent.{Stock, Order}
use Rattle.terms.specs.Changes.{may_change_all, changed_all}
use Rattle.terms.specs.Points.{point_of, slots_of}
use Rattle.terms.specs.Before.{before}
use Rattle.terms.specs.Tree.{tree_run, each_once, is_tree, is_shelf}
use Rattle.terms.specs.Box.{least_from, greatest_from, root_box, boxes}
use Rattle.terms.specs.Region.{above_at, above, inside, wholly_above, is_settled, is_open}
use Rattle.terms.specs.TightBox.{tight_boxes}
use Rattle.terms.specs.Summary.{row, corners_of, same_numbers}
use Rattle.terms.specs.Visits.{open_slots, visits, tight_open_slots, tight_visits}
use Rattle.terms.specs.Bound.{digits_within, digits, S, is_square}
use Rattle.terms.specs.Value.{in_range, coordinate_of}
use Rattle.terms.specs.Reading.{gives}
use Rattle.terms.specs.PointCall.{point_code, point_answer, point_after}
use Rattle.terms.specs.Refusals.{first_of}
use Rattle.terms.specs.ArrangeCall.{ArrangedAs, arrange_code, arrange_answer}
use Rattle.terms.specs.ListCall.{list_code, list_answer, list_after}
use Rattle.terms.specs.EndToEnd.{end_to_end}
use Rattle.terms.specs.ListRegionsCall.{list_regions_code, lists_after, counts_after}
use Rattle.terms.specs.Screen.{inside_slots, up_to_first, screen_visits}
use Rattle.terms.specs.Margin.{least_to, lowest_least}
use Rattle.terms.specs.ScreenCall.{screen_code, screen_answer}
use Rattle.terms.specs.Branches.{Branch, branches, shelf_branches, branch_at}
use Rattle.terms.specs.Explain.{own_reason, branch_reason, reason_in, reason_of}
use Rattle.terms.specs.ExplainCall.{explain_code, explain_answer}
use Rattle.terms.specs.PlaceCall.{place_code, place_answer}
use Rattle.terms.specs.TakeCall.{take_code, take_answer, take_points, take_live}
use Rattle.terms.specs.WithdrawCall.{withdraw_answer, withdraw_live}
use Rattle.terms.specs.Examples.{unarranged, cut, slots, Holds, All, shelf_a, right_of_one, pair, from_five, five_and_six, table, nothing_left, ◌by◌also◌}
use Rattle.terms.specs.Examples.{example_1_arrange, example_1_already, example_2_list, example_2_open, example_2_box, example_3_list, example_4_all}
use Rattle.terms.specs.Examples.{example_4_none, example_5_list, example_5_reach_0, example_5_reach_1, example_6_list, example_7_arrange, example_7_list}
use Rattle.terms.specs.Examples.{example_7_bound, example_8_arrange, example_8_already, example_8_swapped, example_9_list, example_9_test, sum_6_2, sum_65535_1}
use Rattle.terms.specs.Examples.{sum_65535_2, sum_65535_3, sum_65535_4, test_on_the_face, test_below_the_face, arrange_keeps_later_places}
use Rattle.terms.specs.Examples.{list_keeps_later_places, arrange_by_value_not_size, arrange_ties_in_three, arrange_equal_points, list_ties_in_three}
use Rattle.terms.specs.Examples.{open_ties_in_three, arrange_three, list_three, open_three, arrange_four, list_four, open_four, arrange_swapped}
use Rattle.terms.specs.Examples.{arrange_extremes, list_extremes, list_beyond_reach, list_zero_face, list_zero_face_above_none, list_empty}
use Rattle.terms.specs.Examples.{arrange_refuses_k_first, arrange_refuses_no_dimension, arrange_refuses_n_second, arrange_refuses_points_third}
use Rattle.terms.specs.Examples.{arrange_refuses_room_fourth, arrange_refuses_coordinate_fifth, arrange_refuses_low_coordinate, list_refuses_short_list}
use Rattle.terms.specs.Examples.{list_refuses_coordinate, list_refuses_h, list_refuses_normals, list_refuses_offsets, list_refuses_component}
use Rattle.terms.specs.Examples.{list_refuses_high_component, list_refuses_offset, list_refuses_low_offset, list_refuses_order, arrange_number_twice}
use Rattle.terms.specs.Examples.{arrange_number_of_n, test_refuses_dimension, test_refuses_length, test_refuses_coordinate, test_refuses_h}
use Rattle.terms.specs.Examples.{test_refuses_normals, test_refuses_component, sum_0_3, square_faces, arrange_takes_full_shelf, list_takes_most_faces}
use Rattle.terms.specs.Examples.{list_refuses_dimension, list_refuses_points, list_refuses_short_order, list_refuses_n, screen_two_faces}
use Rattle.terms.specs.Examples.{screen_node_to_the_right, screen_all, screen_none, screen_no_faces, screen_last_slot, screen_between, screen_empty}
use Rattle.terms.specs.Examples.{screen_refuses_dimension, screen_refuses_n, screen_refuses_points, screen_refuses_short_order, screen_refuses_coordinate}
use Rattle.terms.specs.Examples.{screen_refuses_h, screen_refuses_normals, screen_refuses_component, screen_refuses_order, list_one_open_face}
use Rattle.terms.specs.Examples.{list_open_diagonal, open_diagonal_settles_slot_0, list_mirrored_diagonal, list_open_root_corner, open_root_corner}
use Rattle.terms.specs.Examples.{screen_open_root_corner, screen_on_closed_face, screen_on_open_face, test_on_closed_face, test_on_open_face}
use Rattle.terms.specs.Examples.{test_past_open_face, list_open_zero_face, list_refuses_missing_mark, list_refuses_extra_mark, list_refuses_mark}
use Rattle.terms.specs.Examples.{list_refuses_offset_before_mark, screen_refuses_mark, screen_refuses_offset_before_mark, test_refuses_mark}
use Rattle.terms.specs.Examples.{test_refuses_offset_before_mark, test_no_faces, margin_tie, margin_second_face, margin_past_a_face_below}
use Rattle.terms.specs.Examples.{margin_zero_closed_and_open, margin_least_of_all, margin_greatest_of_all, colour_makes_a_point, grey_makes_a_point}
use Rattle.terms.specs.Examples.{colour_between_two_numbers, grey_minus_zero, grey_last_below_zero, grey_last_below_128, grey_minus_128, colour_of_extremes}
use Rattle.terms.specs.Examples.{grey_refuses_128, grey_refuses_below_minus_128, grey_refuses_infinite, grey_refuses_minus_infinite, grey_refuses_no_number}
use Rattle.terms.specs.Examples.{colour_refuses_first, colour_refuses_second, colour_refuses_last, nothing_makes_none, colour_refuses_length}
use Rattle.terms.specs.Examples.{grey_refuses_length, nothing_refuses_length, explain_whole_branch_below, explain_own_test_below, explain_own_test_inside}
use Rattle.terms.specs.Examples.{explain_own_test_second_face, explain_names_the_node, explain_own_margin, explain_open_branch_inside}
use Rattle.terms.specs.Examples.{explain_whole_shelf_inside, explain_whole_shelf_outside, explain_branch_inside, explain_whole_shelf_on_an_open_face}
use Rattle.terms.specs.Examples.{explain_no_faces, explain_face_of_the_box, explain_lowest_face_of_the_box, explain_lowest_face_of_the_point}
use Rattle.terms.specs.Examples.{explain_on_an_open_face, explain_on_a_closed_face, explain_longer_order, explain_refuses_dimension, explain_refuses_n}
use Rattle.terms.specs.Examples.{explain_refuses_points, explain_refuses_short_order, explain_refuses_coordinate, explain_refuses_h, explain_refuses_normals}
use Rattle.terms.specs.Examples.{explain_refuses_component, explain_refuses_offset_before_mark, explain_refuses_mark, explain_refuses_order}
use Rattle.terms.specs.Examples.{explain_refuses_number, explain_refuses_number_of_none, reason_nearest_the_root, reason_inside_with_branch}
use Rattle.terms.specs.Examples.{reason_inside_by_itself, reason_outside_by_itself, reason_lowest_face, regions_three, regions_one, regions_with_marks}
use Rattle.terms.specs.Examples.{regions_most, regions_most_faces, regions_refuse_65, regions_refuse_none, regions_refuse_count_before_room}
use Rattle.terms.specs.Examples.{regions_refuse_extra_count, regions_refuse_dimension, regions_refuse_n, regions_refuse_points_before_count}
use Rattle.terms.specs.Examples.{regions_refuse_short_order, regions_refuse_short_lists, regions_refuse_short_counts, regions_refuse_coordinate}
use Rattle.terms.specs.Examples.{regions_refuse_h, regions_refuse_h_unsummed, regions_refuse_normals, regions_refuse_offsets, regions_refuse_component}
use Rattle.terms.specs.Examples.{regions_refuse_mark, regions_refuse_missing_mark, regions_refuse_order, live_some, live_all, live_none, live_other_byte}
use Rattle.terms.specs.Examples.{live_below_n, range_of_the_dead, range_of_the_live, dead_arrange, dead_already, dead_old_order, dead_swapped, dead_number_of_n}
use Rattle.terms.specs.Examples.{taken_old_order, dead_list, dead_list_old_order, dead_screen_old_order, dead_regions_old_order, dead_box, dead_screen}
use Rattle.terms.specs.Examples.{dead_explain_inside, dead_explain_outside, explain_refuses_dead, explain_refuses_order_before_dead, dead_regions}
use Rattle.terms.specs.Examples.{dead_regions_short_lists, withdrawn_at_place_v, withdrawn_at_place_v_list, withdrawn_in_the_first_place, dead_arrange_room}
use Rattle.terms.specs.Examples.{dead_arrange_short_order, dead_list_short_list, all_dead_arrange, all_dead_list, live_coordinate_refused, dead_bound}
use Rattle.terms.specs.Examples.{arrange_refuses_points_before_bytes, arrange_refuses_few_bytes, list_refuses_few_bytes, screen_refuses_few_bytes}
use Rattle.terms.specs.Examples.{explain_refuses_few_bytes, regions_refuse_few_bytes, arrange_refuses_many_bytes, arrange_refuses_byte_two, take_writes}
use Rattle.terms.specs.Examples.{take_last, take_passes_over_the_dead, take_four_dimensions, take_refuses_five_dimensions, take_refuses_no_dimension}
use Rattle.terms.specs.Examples.{take_refuses_n, take_refuses_points, take_refuses_short_point, take_refuses_long_point, take_refuses_few_bytes}
use Rattle.terms.specs.Examples.{take_refuses_many_bytes, take_refuses_byte_before_coordinate, take_refuses_byte_before_point, take_refuses_coordinate}
use Rattle.terms.specs.Examples.{take_refuses_point, take_refuses_full, take_refuses_no_number, withdraw_clears, withdraw_last, withdraw_refuses_n}
use Rattle.terms.specs.Examples.{withdraw_refuses_few_bytes, withdraw_refuses_many_bytes, withdraw_refuses_byte, withdraw_refuses_dead, withdraw_refuses_number}
use Rattle.terms.specs.Examples.{withdraw_refuses_number_of_none, change_freed_first, change_no_room, change_withdrawn_twice, tight_summary, tight_true}
use Rattle.terms.specs.Examples.{tight_last_number_wrong, tight_one_short, tight_two_faces, tight_two_faces_visits, tight_right_of_five}
use Rattle.terms.specs.Examples.{tight_right_of_five_visits, tight_pair_visits, tight_dead_summary, tight_dead_visits, tight_one_visits, tight_empty_summary}

-- An arrange call that is done, from what computes of it.
arranged : {s : Stock} {o after : Order} {b : ℕ} → arrange_answer s o ≡ record { code = 0; already = b } → length after.slots ≡ length o.slots
    → is_shelf s after ≡ true → drop (slots_of s) after.slots ≡ drop (slots_of s) o.slots → ArrangedAs s o (record { code = 0; already = b }) after
arranged e l t d = record { answered = sym e; size = l; arranged = λ z. t; later = λ z. d; refused = λ z. absurd (z refl) }

-- An arrange call that is refused, from what computes of it.
refusing : {s : Stock} {o : Order} {c : ℕ} → arrange_answer s o ≡ unarranged (suc c) → ArrangedAs s o (unarranged (suc c)) o
refusing e = record { answered = sym e; size = refl; arranged = λ z. absurd (omega arith); later = λ z. refl; refused = λ z. refl }

-- The reason of number 1 where the root is settled: no branch is nearer.
root_below : Holds reason_nearest_the_root
unfolding lesser greater sum_to count rising all_to any_to least_from greatest_from root_box above_at is_settled is_open branches
root_below = record {
  slot = 0;
  stands = record { known = omega arith; number = refl };
  because = record {
    nearest = record { known = omega arith; holds = record { from = omega arith; to = omega arith }; nearer_open = λ t l h d. absurd (omega (arith, d)) };
    face = record { known = omega arith; passes = refl; none_lower = λ e l. absurd (omega (arith, l)) };
    by = refl;
  };
}

-- The reason of number 1 where the root is wholly above the one face.
root_above : Holds reason_inside_with_branch
unfolding lesser greater sum_to count rising all_to any_to least_from greatest_from root_box above_at is_settled is_open branches
root_above = record {
  slot = 0;
  stands = record { known = omega arith; number = refl };
  because = record {
    nearest = record { known = omega arith; holds = record { from = omega arith; to = omega arith }; nearer_open = λ t l h d. absurd (omega (arith, d)) };
    above_all = one;
  };
}
  where
    one : (e : ℕ) → e < 1 → wholly_above (cut shelf_a right_of_one) (root_box (point_of shelf_a.lent) (slots shelf_a)) e ≡ true
    one zero l = refl
    one (suc e) l = absurd (omega arith)

-- Both branches of the two points are open.
pair_open : let bs : List Branch = shelf_branches 1 (point_of pair.lent) (slots pair) in
    (t : ℕ) → t < length bs → is_open (cut pair from_five) (branch_at bs t).box ≡ true
unfolding lesser greater sum_to count rising all_to any_to least_from greatest_from root_box above_at is_settled is_open branches
pair_open zero l = refl
pair_open (suc zero) l = refl
pair_open (suc (suc t)) l = absurd (omega arith)

-- The reasons of the two points.
node_inside : Holds reason_inside_by_itself
unfolding lesser greater sum_to count rising all_to any_to least_from greatest_from root_box above_at is_settled is_open branches
node_inside = record {
  slot = 1;
  stands = record { known = omega arith; number = refl };
  because = record { own_slot = refl; none_settled = record { every_open = λ t l h. pair_open t l }; above_all = one };
}
  where
    one : (e : ℕ) → e < 1 → above (cut pair from_five) e (point_of pair.lent 1) ≡ true
    one zero l = refl
    one (suc e) l = absurd (omega arith)

left_outside : Holds reason_outside_by_itself
unfolding lesser greater sum_to count rising all_to any_to least_from greatest_from root_box above_at is_settled is_open branches
left_outside = record {
  slot = 0;
  stands = record { known = omega arith; number = refl };
  because = record {
    own_slot = refl;
    none_settled = record { every_open = λ t l h. pair_open t l };
    face = record { known = omega arith; passes = refl; none_lower = λ e l. absurd (omega arith) };
    by = refl;
  };
}

-- Where the left branch of A is the settled one, the root alone is nearer, and it is open.
root_open : let bs : List Branch = shelf_branches 2 (point_of shelf_a.lent) (slots shelf_a) in
    (t : ℕ) → t < length bs → (branch_at bs t).depth < (branch_at bs 1).depth → is_open (cut shelf_a five_and_six) (branch_at bs t).box ≡ true
unfolding lesser greater sum_to count rising all_to any_to least_from greatest_from root_box above_at is_settled is_open branches
root_open zero l d = absurd (omega arith)
root_open (suc zero) l d = absurd (omega arith)
root_open (suc (suc zero)) l d = absurd (omega arith)
root_open (suc (suc (suc zero))) l d = refl
root_open (suc (suc (suc (suc zero)))) l d = absurd (omega arith)
root_open (suc (suc (suc (suc (suc zero))))) l d = absurd (omega arith)
root_open (suc (suc (suc (suc (suc (suc t)))))) l d = absurd (omega arith)

-- The reason of number 1 there.
left_below : Holds reason_lowest_face
unfolding lesser greater sum_to count rising all_to any_to least_from greatest_from root_box above_at is_settled is_open branches
left_below = record {
  slot = 0;
  stands = record { known = omega arith; number = refl };
  because = record {
    nearest = record { known = omega arith; holds = record { from = omega arith; to = omega arith }; nearer_open = λ t l h d. root_open t l d };
    face = record { known = omega arith; passes = refl; none_lower = λ e l. absurd (omega (arith, l)) };
    by = refl;
  };
}

-- Every row holds of the calls as they are defined.
pub examples_hold : All table
unfolding lesser greater sum_to total_to count every keep all_to any_to rising before tree_run each_once is_tree least_from greatest_from root_box boxes above_at inside is_settled is_open open_slots visits digits_within digits S is_square first_of arrange_code arrange_answer list_code list_answer list_after end_to_end list_regions_code lists_after counts_after inside_slots up_to_first screen_visits least_to lowest_least screen_code screen_answer place_code place_answer of_bits in_range coordinate_of gives point_code point_answer point_after lowest_to own_reason branch_reason reason_in reason_of explain_code explain_answer may_change_all changed_all take_code take_answer take_points take_live withdraw_answer withdraw_live row corners_of same_numbers tight_boxes tight_open_slots tight_visits
examples_hold =
    example_1_arrange by arranged refl refl refl refl
    also example_1_already by arranged refl refl refl refl
    also example_2_list by (refl, refl)
    also example_2_open by refl
    also example_2_box by refl
    also example_3_list by (refl, refl)
    also example_4_all by (refl, refl)
    also example_4_none by (refl, refl)
    also example_5_list by (refl, refl)
    also example_5_reach_0 by refl
    also example_5_reach_1 by refl
    also example_6_list by (refl, refl)
    also example_7_arrange by arranged refl refl refl refl
    also example_7_list by (refl, refl)
    also example_7_bound by refl
    also example_8_arrange by arranged refl refl refl refl
    also example_8_already by arranged refl refl refl refl
    also example_8_swapped by arranged refl refl refl refl
    also example_9_list by (refl, refl)
    also example_9_test by refl
    also sum_6_2 by refl
    also sum_65535_1 by refl
    also sum_65535_2 by refl
    also sum_65535_3 by refl
    also sum_65535_4 by refl
    also test_on_the_face by refl
    also test_below_the_face by refl
    also arrange_keeps_later_places by arranged refl refl refl refl
    also list_keeps_later_places by (refl, refl)
    also arrange_by_value_not_size by arranged refl refl refl refl
    also arrange_ties_in_three by arranged refl refl refl refl
    also arrange_equal_points by arranged refl refl refl refl
    also list_ties_in_three by (refl, refl)
    also open_ties_in_three by refl
    also arrange_three by arranged refl refl refl refl
    also list_three by (refl, refl)
    also open_three by refl
    also arrange_four by arranged refl refl refl refl
    also list_four by (refl, refl)
    also open_four by refl
    also arrange_swapped by arranged refl refl refl refl
    also arrange_extremes by arranged refl refl refl refl
    also list_extremes by (refl, refl)
    also list_beyond_reach by (refl, refl)
    also list_zero_face by (refl, refl)
    also list_zero_face_above_none by (refl, refl)
    also list_empty by (refl, refl)
    also arrange_refuses_k_first by refusing refl
    also arrange_refuses_no_dimension by refusing refl
    also arrange_refuses_n_second by refusing refl
    also arrange_refuses_points_third by refusing refl
    also arrange_refuses_room_fourth by refusing refl
    also arrange_refuses_coordinate_fifth by refusing refl
    also arrange_refuses_low_coordinate by refusing refl
    also list_refuses_short_list by (refl, refl)
    also list_refuses_coordinate by (refl, refl)
    also list_refuses_h by (refl, refl)
    also list_refuses_normals by (refl, refl)
    also list_refuses_offsets by (refl, refl)
    also list_refuses_component by (refl, refl)
    also list_refuses_high_component by (refl, refl)
    also list_refuses_offset by (refl, refl)
    also list_refuses_low_offset by (refl, refl)
    also list_refuses_order by (refl, refl)
    also arrange_number_twice by arranged refl refl refl refl
    also arrange_number_of_n by arranged refl refl refl refl
    also test_refuses_dimension by refl
    also test_refuses_length by refl
    also test_refuses_coordinate by refl
    also test_refuses_h by refl
    also test_refuses_normals by refl
    also test_refuses_component by refl
    also sum_0_3 by refl
    also square_faces by refl
    also arrange_takes_full_shelf by refusing refl
    also list_takes_most_faces by (refl, refl)
    also list_refuses_dimension by (refl, refl)
    also list_refuses_n by (refl, refl)
    also list_refuses_points by (refl, refl)
    also list_refuses_short_order by (refl, refl)
    also screen_two_faces by refl
    also screen_node_to_the_right by refl
    also screen_all by refl
    also screen_none by refl
    also screen_no_faces by refl
    also screen_last_slot by refl
    also screen_between by refl
    also screen_empty by refl
    also screen_refuses_dimension by refl
    also screen_refuses_n by refl
    also screen_refuses_points by refl
    also screen_refuses_short_order by refl
    also screen_refuses_coordinate by refl
    also screen_refuses_h by refl
    also screen_refuses_normals by refl
    also screen_refuses_component by refl
    also screen_refuses_order by refl
    also list_one_open_face by (refl, refl)
    also list_open_diagonal by (refl, refl)
    also open_diagonal_settles_slot_0 by refl
    also list_mirrored_diagonal by (refl, refl)
    also list_open_root_corner by (refl, refl)
    also open_root_corner by refl
    also screen_open_root_corner by refl
    also screen_on_closed_face by refl
    also screen_on_open_face by refl
    also test_on_closed_face by refl
    also test_on_open_face by refl
    also test_past_open_face by refl
    also list_open_zero_face by (refl, refl)
    also list_refuses_missing_mark by (refl, refl)
    also list_refuses_extra_mark by (refl, refl)
    also list_refuses_mark by (refl, refl)
    also list_refuses_offset_before_mark by (refl, refl)
    also screen_refuses_mark by refl
    also screen_refuses_offset_before_mark by refl
    also test_refuses_mark by refl
    also test_refuses_offset_before_mark by refl
    also test_no_faces by refl
    also margin_tie by refl
    also margin_second_face by refl
    also margin_past_a_face_below by refl
    also margin_zero_closed_and_open by refl
    also margin_least_of_all by refl
    also margin_greatest_of_all by refl
    also colour_makes_a_point by (refl, refl)
    also grey_makes_a_point by (refl, refl)
    also colour_between_two_numbers by (refl, refl)
    also grey_minus_zero by (refl, refl)
    also grey_last_below_zero by (refl, refl)
    also grey_last_below_128 by (refl, refl)
    also grey_minus_128 by (refl, refl)
    also colour_of_extremes by (refl, refl)
    also grey_refuses_128 by (refl, refl)
    also grey_refuses_below_minus_128 by (refl, refl)
    also grey_refuses_infinite by (refl, refl)
    also grey_refuses_minus_infinite by (refl, refl)
    also grey_refuses_no_number by (refl, refl)
    also colour_refuses_first by (refl, refl)
    also colour_refuses_second by (refl, refl)
    also colour_refuses_last by (refl, refl)
    also nothing_makes_none by (refl, refl)
    also colour_refuses_length by (refl, refl)
    also grey_refuses_length by (refl, refl)
    also nothing_refuses_length by (refl, refl)
    also explain_whole_branch_below by refl
    also explain_own_test_below by refl
    also explain_own_test_inside by refl
    also explain_own_test_second_face by refl
    also explain_names_the_node by refl
    also explain_own_margin by refl
    also explain_open_branch_inside by refl
    also explain_whole_shelf_inside by refl
    also explain_whole_shelf_outside by refl
    also explain_branch_inside by refl
    also explain_whole_shelf_on_an_open_face by refl
    also explain_no_faces by refl
    also explain_face_of_the_box by refl
    also explain_lowest_face_of_the_box by refl
    also explain_lowest_face_of_the_point by refl
    also explain_on_an_open_face by refl
    also explain_on_a_closed_face by refl
    also explain_longer_order by refl
    also explain_refuses_dimension by refl
    also explain_refuses_n by refl
    also explain_refuses_points by refl
    also explain_refuses_short_order by refl
    also explain_refuses_coordinate by refl
    also explain_refuses_h by refl
    also explain_refuses_normals by refl
    also explain_refuses_component by refl
    also explain_refuses_offset_before_mark by refl
    also explain_refuses_mark by refl
    also explain_refuses_order by refl
    also explain_refuses_number by refl
    also explain_refuses_number_of_none by refl
    also reason_nearest_the_root by root_below
    also reason_inside_with_branch by root_above
    also reason_inside_by_itself by node_inside
    also reason_outside_by_itself by left_outside
    also reason_lowest_face by left_below
    also regions_three by (refl, refl, refl)
    also regions_one by (refl, refl, refl)
    also regions_with_marks by (refl, refl, refl)
    also regions_most by (refl, refl, refl)
    also regions_most_faces by (refl, refl, refl)
    also regions_refuse_65 by (refl, refl, refl)
    also regions_refuse_none by (refl, refl, refl)
    also regions_refuse_count_before_room by (refl, refl, refl)
    also regions_refuse_extra_count by (refl, refl, refl)
    also regions_refuse_dimension by (refl, refl, refl)
    also regions_refuse_n by (refl, refl, refl)
    also regions_refuse_points_before_count by (refl, refl, refl)
    also regions_refuse_short_order by (refl, refl, refl)
    also regions_refuse_short_lists by (refl, refl, refl)
    also regions_refuse_short_counts by (refl, refl, refl)
    also regions_refuse_coordinate by (refl, refl, refl)
    also regions_refuse_h by (refl, refl, refl)
    also regions_refuse_h_unsummed by (refl, refl, refl)
    also regions_refuse_normals by (refl, refl, refl)
    also regions_refuse_offsets by (refl, refl, refl)
    also regions_refuse_component by (refl, refl, refl)
    also regions_refuse_mark by (refl, refl, refl)
    also regions_refuse_missing_mark by (refl, refl, refl)
    also regions_refuse_order by (refl, refl, refl)
    also live_some by (refl, refl, refl)
    also live_all by (refl, refl, refl)
    also live_none by (refl, refl, refl)
    also live_other_byte by (refl, refl, refl)
    also live_below_n by (refl, refl, refl)
    also range_of_the_dead by refl
    also range_of_the_live by refl
    also dead_arrange by arranged refl refl refl refl
    also dead_already by arranged refl refl refl refl
    also dead_old_order by arranged refl refl refl refl
    also dead_swapped by arranged refl refl refl refl
    also dead_number_of_n by arranged refl refl refl refl
    also taken_old_order by arranged refl refl refl refl
    also dead_list by (refl, refl)
    also dead_list_old_order by (refl, refl)
    also dead_screen_old_order by refl
    also dead_regions_old_order by (refl, refl, refl)
    also dead_box by refl
    also dead_screen by refl
    also dead_explain_inside by refl
    also dead_explain_outside by refl
    also explain_refuses_dead by refl
    also explain_refuses_order_before_dead by refl
    also dead_regions by (refl, refl, refl)
    also dead_regions_short_lists by (refl, refl, refl)
    also withdrawn_at_place_v by arranged refl refl refl refl
    also withdrawn_at_place_v_list by (refl, refl)
    also withdrawn_in_the_first_place by arranged refl refl refl refl
    also dead_arrange_room by arranged refl refl refl refl
    also dead_arrange_short_order by refusing refl
    also dead_list_short_list by (refl, refl)
    also all_dead_arrange by arranged refl refl refl refl
    also all_dead_list by (refl, refl)
    also live_coordinate_refused by refusing refl
    also dead_bound by refl
    also arrange_refuses_points_before_bytes by refusing refl
    also arrange_refuses_few_bytes by refusing refl
    also list_refuses_few_bytes by (refl, refl)
    also screen_refuses_few_bytes by refl
    also explain_refuses_few_bytes by refl
    also regions_refuse_few_bytes by (refl, refl, refl)
    also arrange_refuses_many_bytes by refusing refl
    also arrange_refuses_byte_two by refusing refl
    also take_writes by (refl, refl, refl)
    also take_last by (refl, refl, refl)
    also take_passes_over_the_dead by (refl, refl, refl)
    also take_four_dimensions by (refl, refl, refl)
    also take_refuses_five_dimensions by (refl, refl, refl)
    also take_refuses_no_dimension by (refl, refl, refl)
    also take_refuses_n by (refl, refl, refl)
    also take_refuses_points by (refl, refl, refl)
    also take_refuses_short_point by (refl, refl, refl)
    also take_refuses_long_point by (refl, refl, refl)
    also take_refuses_few_bytes by (refl, refl, refl)
    also take_refuses_many_bytes by (refl, refl, refl)
    also take_refuses_byte_before_coordinate by (refl, refl, refl)
    also take_refuses_byte_before_point by (refl, refl, refl)
    also take_refuses_coordinate by (refl, refl, refl)
    also take_refuses_point by (refl, refl, refl)
    also take_refuses_full by (refl, refl, refl)
    also take_refuses_no_number by (refl, refl, refl)
    also withdraw_clears by (refl, refl)
    also withdraw_last by (refl, refl)
    also withdraw_refuses_n by (refl, refl)
    also withdraw_refuses_few_bytes by (refl, refl)
    also withdraw_refuses_many_bytes by (refl, refl)
    also withdraw_refuses_byte by (refl, refl)
    also withdraw_refuses_dead by (refl, refl)
    also withdraw_refuses_number by (refl, refl)
    also withdraw_refuses_number_of_none by (refl, refl)
    also change_freed_first by (refl, refl)
    also change_no_room by (refl, refl)
    also change_withdrawn_twice by (refl, refl)
    also tight_summary by refl
    also tight_true by refl
    also tight_last_number_wrong by refl
    also tight_one_short by refl
    also tight_two_faces by refl
    also tight_two_faces_visits by (refl, refl)
    also tight_right_of_five by refl
    also tight_right_of_five_visits by (refl, refl)
    also tight_pair_visits by (refl, refl)
    also tight_dead_summary by refl
    also tight_dead_visits by (refl, refl)
    also tight_one_visits by (refl, refl)
    also tight_empty_summary by refl
    also nothing_left
