-- What certificates come to, as the code finds it.
use Rattle.std.proofs.Common.{◌≡◌, ◌≤◌, ◌<◌, ◌↔◌, ◌∙◌, ℕ, true, false, nat_lt, length, List, [], All, Option, None, Some, arith, refl, ap, sym, subst, Result, Ok, Err, IfOk}
use Rattle.std.proofs.lemmas.Bool.Decides.{nat_tests}
use Rattle.qterm.specs.Tree.{Tree}
use Rattle.qterm.specs.Store.{Extends}
use Rattle.qterm.proofs.Alls.{All-weaker}
use Rattle.smt_words.specs.declared.command.Command.{Command}
use Rattle.smt_words.specs.declared.command.Command.TheVariants as command
use Rattle.smt_words.specs.declared.script.Placed.{Placed}
use Rattle.smt_words.specs.declared.error.ScriptError.{ScriptError}
use Rattle.smt_words.specs.Command.{ScriptTree}
use Rattle.smt_command.specs.Given.{IsCommandIn}
use Rattle.smt_command.specs.Script.{script_of}
use Rattle.script_text.specs.Session.{start}
use Rattle.tac_cert.specs.declared.cert.Cert.{Cert}
use Rattle.tac_cert.specs.Accepts.{Accepts, CertFits, most_splits}
use Rattle.cert_items.specs.Truth.{Unsatisfiable}
use Rattle.cert_check.specs.declared.verdict.Verdict.{Verdict}
use Rattle.cert_check.specs.declared.verdict.Verdict.TheVariants as verdict
use Rattle.cert_check.specs.Walking.{verdict_on}
use Rattle.cert_check.proofs.Splitting.{fits_stay}
use Rattle.cert_text.specs.CertText.{cert_text}
use Rattle.cert_read.specs.Nesting.{Nests}
use Rattle.script_shown.proofs.CertStays.{cert_text_stays}
use Rattle.check_front.specs.declared.finding.Finding.{Finding}
use Rattle.check_front.specs.declared.finding.Finding.TheVariants as f
use Rattle.check_front.specs.declared.finding.TheConstants.{MOST_SCRIPT, MOST_CERT}
use Rattle.check_front.specs.Cut.{IsCut}
use Rattle.check_front.specs.Named.{IsFormulaIn}
use Rattle.check_front.specs.Judged.{too_long, whole_script, asserts_of, finding_of, unnamed, judged, IsJudgedBy, IsJudgedLater, IsCertOf, IsJudged, IsFound}
use Rattle.check_front.proofs.Passed.{named_none}

-- what follows of an answer
pub if_ok : {T E : Type 0} {P Q : T → Type 0} (r : Result T E) → ((t : T) → P t → Q t) → IfOk r P → IfOk r Q
if_ok (Ok t) f h = f t h
if_ok (Err e) f h = tt

-- ---- the script
pub whole_short : (bytes : List ℕ) → length bytes ≤ MOST_SCRIPT → whole_script bytes ≡ script_of None bytes
unfolding whole_script
whole_short bytes h = let test : nat_lt MOST_SCRIPT (length bytes) ≡ false = grind (arith, nat_tests) in rw test refl

-- a script that is too long
abbrev pub long_script : ScriptTree
long_script = record { commands = []; fault = Some too_long }

pub whole_long : (bytes : List ℕ) → MOST_SCRIPT < length bytes → whole_script bytes ≡ long_script
unfolding whole_script
whole_long bytes h = let test : nat_lt MOST_SCRIPT (length bytes) ≡ true = grind (arith, nat_tests) in rw test refl

-- a command that was read asserts a formula
formula_in : (ts : List Tree) (bytes : List ℕ) (c : Command) → IsCommandIn ts bytes c → IsFormulaIn ts c
formula_in ts bytes (command.Assert id) h = h.0
formula_in ts bytes c h = tt

pub formulas_in : (ts : List Tree) (bytes : List ℕ) (ps : List Placed) → All (λ (p : Placed). IsCommandIn ts bytes p.command) ps → All (λ (p : Placed). IsFormulaIn ts p.command) ps
formulas_in ts bytes ps h = All-weaker (λ (p : Placed). IsCommandIn ts bytes p.command) (λ (p : Placed). IsFormulaIn ts p.command) ps (λ p. formula_in ts bytes p.command) h

-- ---- the answer of the checker
verdict_back : (v : Verdict) → finding_of v ≡ f.Accepted → v ≡ verdict.Accepted
verdict_back verdict.Accepted e = refl
verdict_back (verdict.Refused step rule) e = cc

some_inside : {X : Type 0} (o : Option X) (x y : X) → o ≡ Some x → o ≡ Some y → x ≡ y
some_inside o x y a b = let e : Some x ≡ Some y = sym a ∙ b in cc

none_some : {X : Type 0} (o : Option X) (x : X) → o ≡ None → o ≡ Some x → ⊥
none_some o x a b = let e : None ≡ Some x = sym a ∙ b in cc

pub judged_at : (script : ScriptTree) (ts : List Tree) (cert : Cert) (asserts : List Tree) (v : Verdict) → asserts_of script cert ≡ Some asserts → v ≡ verdict_on ts cert asserts
    → (v ≡ verdict.Accepted) ↔ Accepts ts cert asserts → (v ≡ verdict.Accepted → Unsatisfiable asserts) → IsJudgedBy script ts cert (finding_of v)
judged_at script ts cert asserts v there is iff sound = record {
  found = rw there (ap finding_of is);
  accepted = λ others same.
      let one = some_inside (asserts_of script cert) asserts others there same in
      subst (λ us. (finding_of v ≡ f.Accepted) ↔ Accepts ts cert us) one ((λ e. iff.0 (verdict_back v e)), (λ a. ap finding_of (iff.1 a)));
  sound = λ e. (asserts, there, sound (verdict_back v e));
}

unnamed_refused : (fault : Option ScriptError) → unnamed fault ≡ f.Accepted → ⊥
unnamed_refused (Some error) e = cc
unnamed_refused None e = cc

pub judged_unnamed : (script : ScriptTree) (ts : List Tree) (cert : Cert) → asserts_of script cert ≡ None → IsJudgedBy script ts cert (unnamed script.fault)
judged_unnamed script ts cert missing = record {
  found = rw missing refl;
  accepted = λ asserts there. absurd (none_some (asserts_of script cert) asserts missing there);
  sound = λ e. absurd (unnamed_refused script.fault e);
}

-- ---- the certificate
-- it is that of the source over a store that has grown
cert_later : (source : List ℕ) (ts us : List Tree) (cert : Cert) → Extends ts us → IsCertOf source ts cert → IsCertOf source us cert
cert_later source ts us cert e h = record {
  short = h.short;
  cut = subst (IsCut source) (sym (cert_text_stays ts us cert e h.fits)) h.cut;
  fits = fits_stay ts us most_splits cert.root e h.fits;
  nests = h.nests;
}

judged_tells : (found : Option (List Tree)) (ts : List Tree) (cert : Cert) (fault : Option ScriptError) (line : ℕ) → (f.Malformed line ≡ judged ts cert found fault → ⊥) × (f.TooLong ≡ judged ts cert found fault → ⊥)
judged_tells (Some asserts) ts cert fault line = by (verdict_on ts cert asserts)
  where
    by : (v : Verdict) → (f.Malformed line ≡ finding_of v → ⊥) × (f.TooLong ≡ finding_of v → ⊥)
    by verdict.Accepted = ((λ e. cc), (λ e. cc))
    by (verdict.Refused step rule) = ((λ e. cc), (λ e. cc))
judged_tells None ts cert (Some error) line = ((λ e. cc), (λ e. cc))
judged_tells None ts cert None line = ((λ e. cc), (λ e. cc))

found_judged : (script source : List ℕ) (finding : Finding) → IsJudged script source finding → IsFound script source finding
found_judged script source f.Accepted h = h
found_judged script source (f.Refused step rule) h = h
found_judged script source (f.Wrong error) h = h
found_judged script source (f.Malformed line) h = absurd ((judged_tells (asserts_of (whole_script script) h.1) h.0 h.1 (whole_script script).fault line).0 h.3.found)
found_judged script source f.TooLong h = absurd ((judged_tells (asserts_of (whole_script script) h.1) h.0 h.1 (whole_script script).fault 0).1 h.3.found)

-- a certificate that was read and judged
pub found_by : (script source bytes : List ℕ) (ts : List Tree) (cert : Cert) (finding : Finding) → length source ≤ MOST_CERT → IsCut source bytes → bytes ≡ cert_text ts cert → CertFits ts cert → Nests most_splits cert.root
    → IsJudgedLater ts (whole_script script) cert finding → IsFound script source finding
found_by script source bytes ts cert finding short cut text fits nests later =
    let of : IsCertOf source ts cert = record { short = short; cut = subst (IsCut source) text cut; fits = fits; nests = nests } in
    found_judged script source finding (later.0, cert, cert_later source ts later.0 cert later.1 of, later.2)

-- ---- the line of a script that is too long
judged_long : (ts : List Tree) (cert : Cert) → judged ts cert (asserts_of long_script cert) long_script.fault ≡ f.Wrong too_long
judged_long ts cert = ap (λ found. judged ts cert found (Some too_long)) (named_none cert.check start)

pub wrong_long : (script source : List ℕ) (error : ScriptError) → MOST_SCRIPT < length script → IsFound script source (f.Wrong error) → error ≡ too_long
wrong_long script source error long h =
    let told : f.Wrong error ≡ judged h.0 h.1 (asserts_of (whole_script script) h.1) (whole_script script).fault = h.3.found in
    let same : f.Wrong error ≡ f.Wrong too_long = (rw (whole_long script long) at told) ∙ judged_long h.0 h.1 in
    cc
