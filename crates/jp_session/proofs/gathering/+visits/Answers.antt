use Rattle.std.proofs.Common.{◌∙◌, ◌<◌, ◌-◌, ap, sym, subst, arith}
use Rattle.jp_session.specs.Parts.{parts_of}
use Rattle.jp_session.specs.Visits.{is_listed}
use Rattle.jp_session.specs.Weights.{weight_of_query}
use Rattle.jp_session.proofs.VisitLaws.{begins, ends, item_leads, known_leads, sublink_leads}
use Rattle.jp_session.proofs.WeightLaws.{parts_lighter, weighs}
use Rattle.jp_session.proofs.gathering.+visits.Goals as goal

pub visit-parts-init : goal.visit-parts-init
visit-parts-init t c =
    let parts = c.in_ok-parts.ensures ∙ ap parts_of c.get.ensures in
    record {
      leads = begins c.args.entries.now.items c.args.part.query c.in_ok-parts.parts.items c.new-inner.result parts c.new-inner.ensures;
      light = subst (λ ps. weighs ps < weight_of_query c.args.part.query) (sym parts) (parts_lighter c.args.part.query);
    }

pub visit-returns : goal.visit-returns
visit-returns t c =
    ends c.args.entries.now.items c.parts.entries.items c.push.new.self.items c.args.part c.parts.inner c.parts.parts.items c.parts.invariant.leads (omega (arith, c.in_default.ensures.cases.0, c.parts.parts.ok.0)) c.in_ok-push.ensures.items

pub visit_next-returns-in_ok-push-in-None : goal.visit_next-returns-in_ok-push-in-None
visit_next-returns-in_ok-push-in-None t c rest =
    item_leads c.args.entries.now.items c.visit.new.entries.items c.args.part c.args.places.now c.push.new.self (c.len.result - 1) rest c.in-None.is c.in_ok-visit-in-None.ensures (omega (arith, c.len.ensures, c.visit.new.entries.ok.0)) c.in_ok-push-in-None.ensures.ok

pub visit_next-returns-in_ok-visit-in-Some : goal.visit_next-returns-in_ok-visit-in-Some
visit_next-returns-in_ok-visit-in-Some t c rest =
    sublink_leads c.args.entries.now.items c.visit-then-not-is_listed.new.entries.items c.args.part c.in-Some.number c.args.places.now rest c.in-Some.is (ap (λ es. is_listed es c.in-Some.number) (sym c.as_slice.ensures.value) ∙ sym c.is_listed.ensures ∙ c.if-not-is_listed.true) c.in_ok-visit-in-Some.ensures

pub visit_next-returns-else-not-is_listed : goal.visit_next-returns-else-not-is_listed
visit_next-returns-else-not-is_listed t c rest = known_leads c.args.entries.now.items c.args.part c.in-Some.number c.args.places.now rest c.in-Some.is (ap (λ es. is_listed es c.in-Some.number) (sym c.as_slice.ensures.value) ∙ sym c.is_listed.ensures ∙ c.if-not-is_listed.false)
