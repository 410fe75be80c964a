use Rattle.std.proofs.Common.{◌≡◌, ◌-◌, ◌++◌, map, true}
use Rattle.std.specs.Prelude.{codes, string_bytes}
use Rattle.jp_explain.specs.Lists.{separated_from}
use Rattle.jp_explain.specs.Names.{members_from, relation_name}
use Rattle.jp_explain.proofs.names.push_relations.Given as goal

abbrev pub invariant-rels : goal.invariant-rels
invariant-rels l = string_bytes l.text ++ separated_from l.first (codes ", ") (map (relation_name l.names) (members_from l.fn.rels l.rel (64 - l.rel))) ≡ string_bytes l.initial.text ++ separated_from true (codes ", ") (map (relation_name l.names) (members_from l.fn.rels 0 64))
