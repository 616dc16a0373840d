-- The line of a finding, by the bytes of the script that were kept.
use Rattle.std.proofs.Common.{◌≡◌, ◌<◌, ℕ, List, [], length, refl, ap}
use Rattle.answer_text.specs.Errors.{error_line}
use Rattle.check_front.specs.declared.reading.Text.{Text}
use Rattle.check_front.specs.declared.reading.Text.TheVariants.{Whole, Long}
use Rattle.check_front.specs.declared.finding.Finding.{Finding}
use Rattle.check_front.specs.declared.finding.Finding.TheVariants as f
use Rattle.check_front.specs.declared.finding.TheConstants.{MOST_SCRIPT}
use Rattle.check_front.specs.Texts.{Holds, kept}
use Rattle.check_front.specs.Judged.{too_long, IsFound}
use Rattle.check_front.specs.Lines.{finding_line}
use Rattle.check_front.proofs.Judgements.{wrong_long}

line_too_long : (script : List ℕ) → error_line [] too_long.what too_long.place ≡ error_line script too_long.what too_long.place
unfolding error_line
line_too_long script = refl

line_long : (script source : List ℕ) (finding : Finding) → MOST_SCRIPT < length script → IsFound script source finding → finding_line [] finding ≡ finding_line script finding
unfolding finding_line
line_long script source f.Accepted long h = refl
line_long script source (f.Refused step rule) long h = refl
line_long script source (f.Malformed line) long h = refl
line_long script source f.TooLong long h = refl
line_long script source (f.Wrong error) long h = rw (wrong_long script source error long h) (line_too_long script)

pub line_kept : (text : Text) (script source : List ℕ) (finding : Finding) → Holds MOST_SCRIPT text script → IsFound script source finding → finding_line (kept text) finding ≡ finding_line script finding
line_kept (Whole v) script source finding h found = ap (λ bytes. finding_line bytes finding) h.0
line_kept Long script source finding h found = line_long script source finding h found
