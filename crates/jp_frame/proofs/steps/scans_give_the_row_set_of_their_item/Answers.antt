use Rattle.std.proofs.Common.{sym, subst, ◌^◌}
use Rattle.jp_frame.specs.Rows.{InRowSet}
use Rattle.jp_frame.specs.Methods.{AllActive}
use Rattle.jp_frame.proofs.BagLaws.{scan_to, scan_from}
use Rattle.jp_frame.proofs.steps.scans_give_the_row_set_of_their_item.Goals as goal

pub returns : goal.returns
returns c f i m ok low = (scan_to f ok i low m, λ h. subst (InRowSet f (2 ^ i)) (sym h.2) (scan_from f ok i low h.0 h.1 (subst (AllActive f (2 ^ i)) h.2 h.3)))
