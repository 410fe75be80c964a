use Rattle.std.proofs.Common.{◌+◌, ◌*◌, ◌<◌, [], length}
use Rattle.jp_session.specs.Parts.{parts_of}
use Rattle.jp_session.specs.Visits.{Leads}
use Rattle.jp_session.specs.Weights.{weight_of_query}
use Rattle.jp_session.proofs.WeightLaws.{weighs}
use Rattle.jp_session.proofs.gathering.+visits.Given as goal

abbrev pub decreases-visit : goal.decreases-visit
decreases-visit l = weight_of_query l.part.query * 2

abbrev pub decreases-visit_next : goal.decreases-visit_next
decreases-visit_next l = weight_of_query l.part.query * 2 + 1

-- what was listed so far leads to all, and what is left weighs less than the part
abbrev pub invariant-visit-parts : goal.invariant-visit-parts
invariant-visit-parts l = record {
  leads : Leads l.initial.entries.items [] (parts_of l.part.query) l.entries.items l.inner l.parts.items;
  light : weighs l.parts.items < weight_of_query l.part.query;
}

abbrev pub decreases-visit-parts : goal.decreases-visit-parts
decreases-visit-parts l = length l.parts.items
