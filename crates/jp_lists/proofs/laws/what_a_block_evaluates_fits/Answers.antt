use Rattle.jp_facts.proofs.Members.{to_in}
use Rattle.jp_lists.proofs.FitLaws.{put_inside, used_fits, item_fits, each_evaluated}
use Rattle.jp_lists.proofs.laws.what_a_block_evaluates_fits.Goals as goal
use Rattle.jp_tree.specs.BlockParts.{item_blocks}

pub returns-clause-items : goal.returns-clause-items
returns-clause-items c prepared whole number inner block env there fits used = item_fits prepared whole number block there env fits inner (to_in inner (item_blocks block) used)

pub returns-clause-behind : goal.returns-clause-behind
returns-clause-behind c prepared whole number inner block env inside there fits is uses = used_fits prepared whole number block there env fits inner inside is uses

pub returns-clause-values : goal.returns-clause-values
returns-clause-values c prepared whole tables number block env inside belong there fits is = each_evaluated prepared whole tables number block env belong there fits inside is

pub returns-clause-pairs : goal.returns-clause-pairs
returns-clause-pairs c scope outer left right rels f g = put_inside scope outer rels left right f g
