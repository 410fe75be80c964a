use Rattle.std.proofs.Common.{map}
use Rattle.jp_facts.proofs.Members.{from_in}
use Rattle.jp_query.specs.Meaning.{holds}
use Rattle.jp_framed.specs.Environments.{value_by, env_of}
use Rattle.jp_framed.proofs.JoinedMaps.{scanned, filtered, inner_joined, left_joined, semi_joined, anti_joined}
use Rattle.jp_framed.proofs.joins.joins_of_maps_are_joins_of_tuples.Goals as goal

pub returns : goal.returns
returns c = record {
  scanned = λ rels setting items i set apart low here clear. scanned rels setting apart items i set low here clear;
  filtered = λ rels setting conds maps. filtered (env_of rels setting) (holds (map (value_by setting.sublinks) conds)) maps;
  inner = λ rels setting conds l right on_left on_right apart none lie. inner_joined rels setting apart conds right on_right (λ b h. lie b (from_in b on_right h)) on_left (λ a h. none a (from_in a on_left h));
  left = λ rels setting conds l right on_left on_right apart none lie. left_joined rels setting apart conds right on_right (λ b h. lie b (from_in b on_right h)) on_left (λ a h. none a (from_in a on_left h));
  semi = λ rels setting conds l right on_left on_right apart none lie. semi_joined rels setting apart conds right on_right (λ b h. lie b (from_in b on_right h)) on_left (λ a h. none a (from_in a on_left h));
  anti = λ rels setting conds l right on_left on_right apart none lie. anti_joined rels setting apart conds right on_right (λ b h. lie b (from_in b on_right h)) on_left (λ a h. none a (from_in a on_left h));
}
