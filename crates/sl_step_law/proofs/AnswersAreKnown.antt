-- What may come at an input is the answer of an open call; and a read of all ids gives their sectors.
use Rattle.sl_area.specs.AreaSizes.{IsGeometry, Layout, Sizes}
use Rattle.sl_area.specs.AreaLayout.{read_at}
use Rattle.sl_delta.proofs.PurposeLaws.{survey_is}
use Rattle.sl_due.specs.Steps.{Step, seen}
use Rattle.sl_host_law.proofs.Answers.AnswersSetFree.{of_trace}
use Rattle.sl_host_law.proofs.StepParts.ExpectedIsOpen.{expected_is_open}
use Rattle.sl_host_law.proofs.SharedFacts.SessionNumbers.{placed_by_number}
use Rattle.sl_host_law.specs.StepParts.ExpectedIsOpen.{AreLooks, IsAnswerOf}
use Rattle.sl_host_law.specs.Replies.Answers.{AreIdSectors, FitsCall}
use Rattle.sl_host_state.specs.KeptState.{Config, HostState}
use Rattle.sl_host_state.specs.NewHost.{sizes_in}
use Rattle.sl_host_state.specs.HostStands.{sectors_of}
use Rattle.sl_host_state.specs.declared.kept_parts.OpenCall.{OpenCall}
use Rattle.sl_run.specs.LawfulDelta.{LawfulDeltaCall}
use Rattle.sl_words.proofs.Lists.{kept_inside}
use Rattle.sl_words.proofs.Options.{some_of}
use Rattle.sl_sector.proofs.ByteLaws.{bytes_from_test}
use Rattle.sl_sector.proofs.SpellingLaws.{spelled}
use Rattle.sl_sector.specs.SectorLayouts.{IsSectorSize, decoded, magic}
use Rattle.sl_sector.specs.declared.sector.Bad.TheVariants.{BadMagic}
use Rattle.sl_sector.specs.declared.sector.Bad.{Bad}
use Rattle.sl_sector.specs.declared.sector.DeltaRec.{DeltaRec}
use Rattle.sl_sector.specs.declared.sector.Rec.TheVariants.{BlockIs, DeltaIs, LeaderIs, PairIs, PairLeaderIs, RequestIs, ValueIs}
use Rattle.sl_sector.specs.declared.sector.Rec.{Rec}
use Rattle.sl_trace.specs.Sessions.{is_survey_purpose, session_numbered}
use Rattle.sl_step_law.proofs.CallsOfMembers.{calls_are_theirs}
use Rattle.sl_step_law.specs.Answers.{AnswersAreKnown, IsOfBytes}
use Rattle.sl_step_law.specs.ReadyHosts.{IsReady}
use Rattle.sl_trace.specs.Traces.{Submitted, submitted}
use Rattle.sl_trace.specs.declared.effects.Purpose.TheVariants.{Survey}
use Rattle.sl_trace.specs.declared.input.Answer.TheVariants.{Failed, Read, Written}
use Rattle.sl_trace.specs.declared.input.Answer.{Answer}
use Rattle.sl_run_law.proofs.Sessions.CallOwners.{calls_were_lawful}
use Rattle.sl_run_law.specs.Sessions.SessionLaws.{front_of, made_as}
use Rattle.sl_watch.proofs.SightingLaws.{bytes_are_read_true}
use Rattle.sl_watch.specs.ToldLooks.{AreTrue, delta_found}
use Rattle.sl_words.proofs.CaseLaws.{some_value, true_is_false}
use Rattle.sl_words.proofs.ListLaws.{list_all-drop, list_all-take}
use Rattle.sl_words.specs.Words.{choose}
use Rattle.std.proofs.Common.{ap, arith, inl, inr, refl, suc, subst, sym, zero, ◌∙◌}
use Rattle.std.proofs.Math.Nat.{mul-le-mul_right, suc-mul}
use Rattle.std.proofs.lemmas.Bool.Decides.{nat_tests}
use Rattle.std.proofs.lemmas.Bool.{cases_lt}
use Rattle.std.proofs.lemmas.List.{drop_all, length-drop, length-take-le}
use Rattle.std.specs.Int.{is_in_range}
use Rattle.std.specs.List.{list_all}
use Rattle.std.specs.Prelude.{Contains, Err, IsTrue, List, None, Ok, Result, Some, drop, false, is_none, length, nat_lt, take, true, [], ℕ, ◌*◌, ◌+◌, ◌-◌, ◌<◌, ◌==◌, ◌≡◌, ◌≤◌, ◌⊎◌}

-- ---- the sectors of ids

pub sector_size : (z : Sizes) → IsGeometry z → IsSectorSize z.sector × (1 ≤ z.hosts)
sector_size z g = ((grind (arith, nat_tests, g), grind (arith, nat_tests, g)), grind (arith, nat_tests, g))

-- The sector of an id lies among those that were read.
sector_long : (s hosts : ℕ) (bytes : List ℕ) (id : ℕ) → length bytes ≡ hosts * s → 1 ≤ id → id ≤ hosts → length (take s (drop ((id - 1) * s) bytes)) ≡ s
sector_long s hosts bytes id long from to = length-take-le s (drop ((id - 1) * s) bytes) (omega (arith, length-drop ((id - 1) * s) bytes, whole, long)) where
  whole : (id - 1) * s + s ≤ hosts * s
  whole =
      let one : suc (id - 1) * s ≤ hosts * s = mul-le-mul_right s (omega (arith, from, to)) in
      subst (λ n. n ≤ hosts * s) (suc-mul (id - 1) s) one

sector_bytes : (s : ℕ) (bytes : List ℕ) (at : ℕ) → IsTrue (list_all (λ b. nat_lt b 256) bytes) → IsTrue (list_all (λ b. nat_lt b 256) (take s (drop at bytes)))
sector_bytes s bytes at all = list_all-take (λ b. nat_lt b 256) s (drop at bytes) (list_all-drop (λ b. nat_lt b 256) at bytes all)

-- No bytes spell nothing.
nothing_spelled : (digest : List ℕ → List ℕ) → decoded digest [] ≡ Err BadMagic
unfolding decoded magic
nothing_spelled digest = refl

-- A record that is read has an id.
has_id : (digest : List ℕ → List ℕ) (bs : List ℕ) (d : DeltaRec) → IsSectorSize (length bs) → IsTrue (list_all (λ b. nat_lt b 256) bs) → decoded digest bs ≡ Ok (DeltaIs d) → 1 ≤ d.id
has_id digest bs d size all is = (spelled digest bs (DeltaIs d) (bytes_from_test bs all) size is).0.id.0

not_found : (id : ℕ) (found : Result Rec Bad) → ((d : DeltaRec) → found ≡ Ok (DeltaIs d) → (d.id == id) ≡ false) → delta_found id found ≡ None
not_found id (Ok (DeltaIs d)) other = ap (λ b. choose b d) (other d refl)
not_found id (Ok (LeaderIs l)) other = refl
not_found id (Ok (BlockIs b)) other = refl
not_found id (Ok (RequestIs r)) other = refl
not_found id (Ok (ValueIs v)) other = refl
not_found id (Ok (PairIs p)) other = refl
not_found id (Ok (PairLeaderIs l)) other = refl
not_found id (Err bad) other = refl

id_sectors : (g : Layout) (bytes : List ℕ) → IsGeometry (sizes_in g) → length bytes ≡ g.hosts * g.sector → IsTrue (list_all (λ b. nat_lt b 256) bytes) → AreIdSectors g bytes
id_sectors g bytes geometry long all = record { within = within; beyond = beyond } where
  size : IsSectorSize g.sector × (1 ≤ g.hosts)
  size = sector_size (sizes_in g) geometry

  within : AreTrue (sizes_in g) bytes
  within =
      record {
        long = λ id from to. sector_long g.sector g.hosts bytes id long from to;
        true_read = λ id from to. bytes_are_read_true g.sector (take g.sector (drop ((id - 1) * g.sector) bytes)) size.0
            (sector_long g.sector g.hosts bytes id long from to, sector_bytes g.sector bytes ((id - 1) * g.sector) all);
      }

  first : (d : DeltaRec) → read_at g bytes 0 ≡ Ok (DeltaIs d) → 1 ≤ d.id
  first d is =
      let whole : length (take g.sector (drop (0 * g.sector) bytes)) ≡ g.sector = sector_long g.sector g.hosts bytes 1 long (omega arith) size.1 in
      has_id g.digest (take g.sector (drop (0 * g.sector) bytes)) d (subst IsSectorSize (sym whole) size.0) (sector_bytes g.sector bytes (0 * g.sector) all) is

  behind : (id : ℕ) → g.hosts < id → take g.sector (drop ((id - 1) * g.sector) bytes) ≡ []
  behind id above =
      let far : g.hosts * g.sector ≤ (id - 1) * g.sector = mul-le-mul_right g.sector (omega (arith, above)) in
      ap (take g.sector) (drop_all ((id - 1) * g.sector) bytes (omega (arith, far, long))) ∙ none g.sector where
        none : (n : ℕ) → take {A = ℕ} n [] ≡ []
        none zero = refl
        none (suc n) = refl

  outside : (id : ℕ) → is_in_range 1 g.hosts id ≡ false → (id ≡ 0) ⊎ (g.hosts < id)
  outside zero no_one = inl refl
  outside (suc k) no_one = elim (cases_lt g.hosts (suc k)) [
    | inl above ↦ inr above
    | inr below ↦ absurd (true_is_false (sym (within_range (suc k) g.hosts (omega arith) below) ∙ no_one))
  ] where
    within_range : (n most : ℕ) → 1 ≤ n → n ≤ most → is_in_range 1 most n ≡ true
    within_range n most from to = grind (arith, nat_tests)

  beyond : (id : ℕ) → is_in_range 1 g.hosts id ≡ false → delta_found id (read_at g bytes (id - 1)) ≡ None
  beyond id no_one = elim (outside id no_one) [
    | inl is ↦ not_found id (read_at g bytes (id - 1)) (λ d found. differs d id is (first d (ap (read_at g bytes) (sym (ap (λ n. n - 1) is)) ∙ found)))
    | inr above ↦ ap (λ bs. delta_found id (decoded g.digest bs)) (behind id above) ∙ ap (delta_found id) (nothing_spelled g.digest)
  ] where
    differs : (d : DeltaRec) (n : ℕ) → n ≡ 0 → 1 ≤ d.id → (d.id == n) ≡ false
    differs d n is from = grind (arith, nat_tests)

-- ---- the answer

module _ (h : HostState) (x : Step) (r : IsReady h x) where
  -- A read of all ids asks for them all.
  asks_all : (c : OpenCall) → Contains h.unanswered c → is_survey_purpose c.purpose ≡ true → c.sectors ≡ Some h.config.layout.hosts
  asks_all c open_c surveys =
      let d = of_trace h x.setting (seen x) c r.stands.keeps open_c in
      let inside = kept_inside (λ (z : Submitted). is_none z.answer) (submitted (seen x)) d.0 d.1 in
      let s = some_of (session_numbered x.setting (seen x) d.0.call.session) (r.kept.known.0.facts.calls.owned d.0 inside.0) in
      let number : s.0.number ≡ d.0.call.session = placed_by_number x.setting (seen x) d.0.call.session s.0 s.1 in
      let was = calls_were_lawful x.setting (seen x) s.0 d.0 r.kept.known.0.orderly (ap (session_numbered x.setting (seen x)) number ∙ s.1) inside.0 (sym number) in
      let for : d.0.call.purpose ≡ Survey = ap (λ (z : OpenCall). z.purpose) d.2 ∙ sym (survey_is c.purpose surveys) in
      let law : LawfulDeltaCall x.setting (front_of was.made) s.0 (made_as was.made) Survey =
      subst (λ p. LawfulDeltaCall x.setting (front_of was.made) s.0 (made_as was.made) p) for was.lawful
      in
      ap (λ (z : OpenCall). z.sectors) (sym d.2) ∙ ap sectors_of law.whole.2 ∙ ap (λ (g : Config). Some g.layout.hosts) r.stands.keeps.config

  fits : (c : OpenCall) (a : Answer) → Contains h.unanswered c → IsAnswerOf h.config.layout a c → IsOfBytes a → FitsCall h.config.layout a c
  fits c a open_c answers bytes = expected_is_open.fits h.config.layout a c answers (looks a answers bytes) where
    looks : (b : Answer) → IsAnswerOf h.config.layout b c → IsOfBytes b → AreLooks h.config.layout b c
    looks (Read bs) is all = λ surveys.
        let many : is.0 ≡ h.config.layout.hosts = some_value is.0 h.config.layout.hosts (sym is.1 ∙ asks_all c open_c surveys) in
        id_sectors h.config.layout bs r.sound.laid.geometry (is.2 ∙ ap (λ n. n * h.config.layout.sector) many) all
    looks Written is all = tt
    looks Failed is all = tt

pub answers_are_known : AnswersAreKnown
answers_are_known =
    record {
      theirs = calls_are_theirs;
      open_one = λ h x number a r expected. expected_is_open.call number a h x expected r.stands r.early.at.calls;
      fits = λ h x c a r. fits h x r c a;
    }
