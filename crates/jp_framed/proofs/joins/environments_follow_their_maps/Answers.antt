use Rattle.jp_framed.proofs.JoinedMaps.{env_both, env_alone, env_one}
use Rattle.jp_framed.proofs.joins.environments_follow_their_maps.Goals as goal

pub returns : goal.returns
returns c = record {
  both = λ rels setting right a b apart. env_both rels setting apart right a b;
  alone = λ rels setting right a apart. env_alone rels setting apart right a;
  one = λ rels setting items i set r apart low here clear. env_one rels setting apart items i set r low here clear;
}
