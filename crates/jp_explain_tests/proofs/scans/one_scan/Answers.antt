use Rattle.jp_explain_tests.proofs.RoomLaws.{scan_is_whole}
use Rattle.jp_explain_tests.proofs.scans.one_scan.Goals as goal

pub returns : goal.returns
returns c = scan_is_whole c.in_ok-prepared.prepared c.in_ok-prepared.ensures
