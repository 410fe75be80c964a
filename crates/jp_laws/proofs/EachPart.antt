-- Facts of each member of a list, and the parts of one level, where the laws' files name them.
pub use Rattle.jp_induction.proofs.EachPart.{Each, each_of, all_of_each, each_left, each_right, each_append, each_weaker, each_both, each_true, each_in_all, each_in_parts, each_mapped, each_map, arms_map, option_maps, append_map, parts_map, sublink_map, trees_map, conditions_map, leaf_map}
