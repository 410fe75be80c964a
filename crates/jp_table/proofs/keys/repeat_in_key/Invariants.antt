use Rattle.std.proofs.Common.{◌≡◌, ◌∷◌, [], Global, Vec, drop, take}
use Rattle.std.specs.HashMap as hash
use Rattle.std.specs.List.{position}
use Rattle.jp_table.specs.Judging.{first_refusal, no_repeat}
use Rattle.jp_table.specs.declared.part.Part.{Part}
use Rattle.jp_table.proofs.PartFacts.{has_parts, same_parts}
use Rattle.jp_table.proofs.keys.repeat_in_key.Given as goal

abbrev pub invariant-rows : goal.invariant-rows
invariant-rows l = record {
  same : first_refusal (no_repeat (l.key ∷ [])) (take l.row l.table) (drop l.row l.table) ≡ first_refusal (no_repeat (l.key ∷ [])) [] l.table;
  seen : (q : Vec Part Global) → hash.get same_parts l.seen q ≡ position (has_parts l.key q.items) (take l.row l.table);
}
