-- What a sample of a call makes of what its session's deciding read and verify read showed: nothing, or the one or the other shows now what
-- it was to show.
use Rattle.sl_run_law.proofs.Course.Daemons.{every_has}
use Rattle.sl_id_safety.proofs.State.SampleFrames.{IsJoinCourse, join_is, joining_is}
use Rattle.sl_id_safety.specs.State.Facts.{HasClaimed, HasWatched, is_reading_step}
use Rattle.sl_id_safety.specs.State.IdStates.{claim_bytes, comes_before, deciding_sample, join_course, own_courses, refused_stamp, sample_showing, verifying_sample, watched_bytes}
use Rattle.sl_id_safety.proofs.Steps.SampleKeepsRest.{join_sampled, keeps_rest, sampled_found, turned}
use Rattle.sl_run.specs.EventChanges.{sample_at, sampled_more, write_bytes}
use Rattle.sl_run.specs.Refusals.{sectors_of}
use Rattle.sl_run.specs.Safety.{Found, SessionId}
use Rattle.sl_run.specs.Worlds.{Course, Landing, Sampling, Stamp, World, content, first_landing, flight_of, history_of, landed_at, sector_size}
use Rattle.sl_run.specs.declared.header.Header.{Header}
use Rattle.sl_run_law.proofs.AnswersStay.{flight_waits}
use Rattle.sl_run_law.proofs.CourseLists.{changed_if}
use Rattle.sl_run_law.specs.FatesStay.{AreDistinct, Every}
use Rattle.sl_run_law.proofs.Sample.OnlyCall.{IsOne, all_one}
use Rattle.sl_run_law.proofs.Sample.LandingNumbers.{newest_number}
use Rattle.sl_run_law.specs.Sample.Samples.{numbered_landing}
use Rattle.sl_trace.specs.Sessions.{is_join_call}
use Rattle.sl_trace.specs.declared.effects.JoinStep.TheVariants.{ClaimWrite, DecidingRead, FirstRead, VerifyRead}
use Rattle.sl_trace.specs.declared.effects.JoinStep.{JoinStep}
use Rattle.sl_trace.specs.Traces.{same_place}
use Rattle.sl_trace.specs.declared.effects.Op.TheVariants.{ReadSectors}
use Rattle.sl_trace.specs.declared.effects.Op.{Op}
use Rattle.sl_trace.specs.declared.effects.Purpose.{Purpose}
use Rattle.sl_words.proofs.CaseLaws.{is_false, none_some, not_both}
use Rattle.sl_words.proofs.WordLaws.{and_true}
use Rattle.sl_words.specs.Words.{choose, first_of_list, some_is}
use Rattle.std.proofs.Common.{ap, arith, inl, inr, refl, subst, sym, ◌∙◌}
use Rattle.std.proofs.lemmas.Bool.{eq-eqb}
use Rattle.std.proofs.lemmas.List.{append-nil}
use Rattle.std.specs.List.{range_with_len}
use Rattle.std.specs.Prelude.{Bool, Contains, List, None, Option, Some, bytes_eq, cond, false, filter, find, flat_map, length, map, option_and_then, option_map, suc, true, zero, [], ℕ, ◌&&◌, ◌*◌, ◌++◌, ◌+◌, ◌-◌, ◌==◌, ◌∷◌, ◌≡◌, ◌≤◌, ◌⊎◌}

-- ---- a read of one sector

-- Sampled further it is as it was, or has its sector now.
pub data MoreSampled (w : World) (j : ℕ) (c : Course) : Type 0 where
  Nothing_new : (sampled_more w j c).sampled ≡ c.sampled → first_of_list (sampled_more w j c).samples ≡ first_of_list c.samples → MoreSampled w j c
  Its_sector : c.samples ≡ [] → first_of_list (sampled_more w j c).samples ≡ Some (sample_at w c.call 0)
      → (sampled_more w j c).sampled ≡ content w c.call.path (c.call.offset + 0 * sector_size w) → MoreSampled w j c

-- Its sectors in the world.
abbrev sector_now : World → Course → ℕ → List ℕ
sector_now w c i = content w c.call.path (c.call.offset + i * sector_size w)

no_bytes : (bs : List ℕ) (n s : ℕ) → n ≡ 0 → length bs ≡ n * s → bs ≡ []
no_bytes [] n s zero_is h = refl
no_bytes (b ∷ bs) n s zero_is h =
    let none : n * s ≡ 0 = ap (λ k. k * s) zero_is ∙ omega arith in
    absurd (omega (arith, h, none))

none_more : (w : World) (c : Course) → MoreSampled w 0 c
none_more w c = Nothing_new (append-nil c.sampled) (ap (λ xs. first_of_list xs) (append-nil c.samples))

one_more : (w : World) (c : Course) → c.samples ≡ [] → length c.sampled ≡ length c.samples * w.layout.sector → MoreSampled w 1 c
one_more w c none sized =
    let count : length c.samples ≡ 0 = ap (λ xs. length xs) none in
    Its_sector none
    (ap (λ xs. first_of_list (xs ++ map (sample_at w c.call) (range_with_len (length xs) 1))) none)
    (ap (λ bs. bs ++ flat_map (sector_now w c) (range_with_len (length c.samples) 1)) (no_bytes c.sampled (length c.samples) w.layout.sector count sized)
    ∙ ap (λ k. flat_map (sector_now w c) (range_with_len k 1)) count ∙ append-nil (sector_now w c 0))

too_many : (a n : ℕ) → suc a ≤ 1 - suc n → ⊥
too_many a n h = omega (arith, h)

too_many_more : (a : ℕ) → suc (suc a) ≤ 1 - 0 → ⊥
too_many_more a h = omega (arith, h)

more_by : (w : World) (j : ℕ) (c : Course) (ss : List Sampling) → c.samples ≡ ss → length c.sampled ≡ length c.samples * w.layout.sector → j ≤ 1 - length ss → MoreSampled w j c
more_by w zero c ss is sized few = none_more w c
more_by w (suc zero) c [] is sized few = one_more w c is sized
more_by w (suc (suc j)) c [] is sized few = absurd (too_many_more j few)
more_by w (suc j) c (s ∷ ss) is sized few = absurd (too_many j (length ss) few)

pub more_sampled : (w : World) (j : ℕ) (c : Course) → length c.sampled ≡ length c.samples * w.layout.sector → j ≤ 1 - length c.samples → MoreSampled w j c
more_sampled w j c sized few = more_by w j c c.samples refl sized few

-- ---- what it shows

-- It shows now what it was to show, before any refusal.
pub record ShowsNow (w : World) (f : Found) (bytes : Option (List ℕ)) (c : Course) (was now : Option Sampling) : Type 0 where
  pub none : was ≡ None
  pub some : now ≡ Some (sample_at w c.call 0)
  pub shows : some_is (λ b. bytes_eq b (content w c.call.path (c.call.offset + 0 * sector_size w))) bytes ≡ true
  pub before : comes_before (refused_stamp f) (sample_at w c.call 0) ≡ true

abbrev showing_with : Option Stamp → Option (List ℕ) → List ℕ → Option Sampling → Option Sampling
showing_with r bytes sampled first = option_and_then (λ x. choose (some_is (λ b. bytes_eq b sampled) bytes && comes_before r x) x) first

chosen_or_not : (w : World) (f : Found) (bytes : Option (List ℕ)) (c : Course) (t : Bool) (was now : Option Sampling) → was ≡ None
    → now ≡ choose t (sample_at w c.call 0)
    → (some_is (λ b. bytes_eq b (content w c.call.path (c.call.offset + 0 * sector_size w))) bytes && comes_before (refused_stamp f) (sample_at w c.call 0)) ≡ t
    → (now ≡ was) ⊎ ShowsNow w f bytes c was now
chosen_or_not w f bytes c false was now none is t = inl (is ∙ sym none)
chosen_or_not w f bytes c true was now none is t =
    let p = and_true (some_is (λ b. bytes_eq b (content w c.call.path (c.call.offset + 0 * sector_size w))) bytes) (comes_before (refused_stamp f) (sample_at w c.call 0)) t in
    inr (record { none = none; some = is; shows = p.0; before = p.1 })

pub shows_more : (w : World) (j : ℕ) (f : Found) (bytes : Option (List ℕ)) (c : Course) → MoreSampled w j c
    → (sample_showing f bytes (sampled_more w j c) ≡ sample_showing f bytes c)
    ⊎ ShowsNow w f bytes c (sample_showing f bytes c) (sample_showing f bytes (sampled_more w j c))
shows_more w j f bytes c (Nothing_new same first) =
    inl (ap (λ bs. showing_with (refused_stamp f) bytes bs (first_of_list (sampled_more w j c).samples)) same
    ∙ ap (showing_with (refused_stamp f) bytes c.sampled) first)
shows_more w j f bytes c (Its_sector none first sector) =
    chosen_or_not w f bytes c _ (sample_showing f bytes c) (sample_showing f bytes (sampled_more w j c))
    (ap (λ xs. showing_with (refused_stamp f) bytes c.sampled (first_of_list xs)) none)
    (ap (λ bs. showing_with (refused_stamp f) bytes bs (first_of_list (sampled_more w j c).samples)) sector
    ∙ ap (showing_with (refused_stamp f) bytes (content w c.call.path (c.call.offset + 0 * sector_size w))) first)
    refl

-- ---- the newest landing of a place

-- What a place holds is its newest landing.
pub record HasNewest (w : World) (path : List ℕ) (offset : ℕ) : Type 0 where
  pub landing : Landing
  pub seen : numbered_landing (history_of w path offset) (length (landed_at w path offset)) ≡ Some landing
  pub bytes : content w path offset ≡ landing.bytes

abbrev NewestIn : (Landing → Bool) → Landing → List Landing → Option Landing → Type 0
NewestIn p first kept o =
    (l : Landing) × (numbered_landing (kept ++ first ∷ []) (length kept) ≡ Some l)
    × (elim o as (λ z. List ℕ) [ Some x ↦ x.bytes | None ↦ first.bytes ] ≡ l.bytes)

pub one_longer : (ls : List Landing) (first : Landing) → suc (length ls) ≡ length (ls ++ first ∷ [])
one_longer [] first = refl
one_longer (l ∷ ls) first = ap (λ n. suc n) (one_longer ls first)

newest_by : (p : Landing → Bool) (first x : Landing) (ls : List Landing) (b : Bool) → NewestIn p first (filter p ls) (find p ls)
    → NewestIn p first (cond b (x ∷ filter p ls) (filter p ls)) (cond b (Some x) (find p ls))
newest_by p first x ls true rest = (x, newest_number x (filter p ls ++ first ∷ []) (suc (length (filter p ls))) (one_longer (filter p ls) first), refl)
newest_by p first x ls false rest = rest

newest_in : (p : Landing → Bool) (first : Landing) (ls : List Landing) → NewestIn p first (filter p ls) (find p ls)
newest_in p first [] = (first, newest_number first [] 0 refl, refl)
newest_in p first (x ∷ ls) = newest_by p first x ls (p x) (newest_in p first ls)

pub has_newest : (w : World) (path : List ℕ) (offset : ℕ) → HasNewest w path offset
has_newest w path offset =
    let n = newest_in (λ l. same_place l.path l.offset path offset) (first_landing w path offset) w.landings in
    record { landing = n.0; seen = n.1; bytes = n.2 }

-- ---- a session whose call is sampled

-- The session, its call in flight that is sampled further, and what is known of its reads.
pub record IsSampledCall (w : World) (h : Header) (n j : ℕ) (i : SessionId) (f : Found) (c : Course) : Type 0 where
  pub distinct : AreDistinct f.machine.calls
  pub flight : flight_of f.machine n ≡ Some c
  pub few : j ≤ sectors_of c.call.op - length c.samples
  pub sized : length c.sampled ≡ length c.samples * w.layout.sector
  pub reads : (step : JoinStep) → is_reading_step step ≡ true → IsJoinCourse i step f.machine c → c.call.op ≡ ReadSectors 1
  pub watched : (x : Course) → Contains (own_courses i f.machine) x → is_join_call DecidingRead x.call.purpose ≡ true → HasWatched h w i f x
  pub claimed : (x : Course) → Contains (own_courses i f.machine) x → is_join_call VerifyRead x.call.purpose ≡ true → HasClaimed h w i f x
  pub own : Contains (own_courses i f.machine) c

-- Each other call stays.
untouched : (w : World) (n j : ℕ) (a : List Course) (c x : Course) → Every (IsOne n c) a → Contains a x → (x ≡ c → ⊥) → turned w n j x ≡ x
untouched w n j a c x each has apart =
    ap (λ b. changed_if b (sampled_more w j) x) (is_false (x.call.number == n) (λ t. apart (every_has (IsOne n c) a x each has t)))

touched : (w : World) (n j : ℕ) (c : Course) → c.call.number ≡ n → turned w n j c ≡ sampled_more w j c
touched w n j c is = ap (λ b. changed_if b (sampled_more w j) c) (eq-eqb c.call.number n is)

join_still : (w : World) (h : Header) (n j : ℕ) (i : SessionId) (f : Found) (c : Course) → IsSampledCall w h n j i f c → (step : JoinStep) (x : Course)
    → join_course i step f.machine ≡ Some x → (x ≡ c → ⊥) → join_course i step (sampled_found w n j f).machine ≡ Some x
join_still w h n j i f c k step x at apart =
    join_sampled w n j i step f ∙ ap (λ o. option_map (turned w n j) o) at
    ∙ ap (λ y. Some y) (untouched w n j f.machine.calls c x (all_one f.machine n c k.flight k.distinct) (join_is i step f.machine x at).has apart)

join_none : (w : World) (n j : ℕ) (i : SessionId) (f : Found) (step : JoinStep) → join_course i step f.machine ≡ None
    → join_course i step (sampled_found w n j f).machine ≡ None
join_none w n j i f step at = join_sampled w n j i step f ∙ ap (λ o. option_map (turned w n j) o) at

join_more : (w : World) (h : Header) (n j : ℕ) (i : SessionId) (f : Found) (c : Course) → IsSampledCall w h n j i f c → (step : JoinStep)
    → join_course i step f.machine ≡ Some c → join_course i step (sampled_found w n j f).machine ≡ Some (sampled_more w j c)
join_more w h n j i f c k step at =
    join_sampled w n j i step f ∙ ap (λ o. option_map (turned w n j) o) at ∙ ap (λ y. Some y) (touched w n j c (flight_waits f.machine n c k.flight).0)

other_step : (i : SessionId) (f : Found) (c x : Course) (step : JoinStep) → is_join_call step c.call.purpose ≡ false → join_course i step f.machine ≡ Some x → x ≡ c → ⊥
other_step i f c x step apart at same =
    not_both (is_join_call step c.call.purpose) (subst (λ y. is_join_call step y.call.purpose ≡ true) same (join_is i step f.machine x at).joins) apart

-- An answered call isn't in flight.
answered_other : (w : World) (h : Header) (n j : ℕ) (i : SessionId) (f : Found) (c : Course) → IsSampledCall w h n j i f c → (x : Course) (s : Stamp)
    → x.answered ≡ Some s → x ≡ c → ⊥
answered_other w h n j i f c k x s answered same = none_some s (sym (flight_waits f.machine n c k.flight).1 ∙ ap (λ y. y.answered) (sym same) ∙ answered)

-- ---- the deciding read

decides_if : (i : SessionId) (f : Found) (x first : Course) → join_course i FirstRead f.machine ≡ Some first → join_course i DecidingRead f.machine ≡ Some x
    → deciding_sample i f ≡ sample_showing f (Some first.sampled) x
decides_if i f x first looked at =
    ap (λ o. option_and_then (sample_showing f (watched_bytes i f)) o) at
    ∙ ap (λ o. sample_showing f (option_map (λ c. c.sampled) o) x) looked

undecided : (i : SessionId) (f : Found) → join_course i DecidingRead f.machine ≡ None → deciding_sample i f ≡ None
undecided i f at = ap (λ o. option_and_then (sample_showing f (watched_bytes i f)) o) at

first_still : (w : World) (h : Header) (n j : ℕ) (i : SessionId) (f : Found) (c : Course) → IsSampledCall w h n j i f c → (x : Course) → (q : HasWatched h w i f x)
    → join_course i FirstRead (sampled_found w n j f).machine ≡ Some q.first
first_still w h n j i f c k x q = join_still w h n j i f c k FirstRead q.first q.looked (answered_other w h n j i f c k q.first q.answer q.answered.0)

decides_still : (w : World) (h : Header) (n j : ℕ) (i : SessionId) (f : Found) (c : Course) → IsSampledCall w h n j i f c
    → is_join_call DecidingRead c.call.purpose ≡ false → deciding_sample i (sampled_found w n j f) ≡ deciding_sample i f
decides_still w h n j i f c k apart = by (join_course i DecidingRead f.machine) refl where
  by : (o : Option Course) → join_course i DecidingRead f.machine ≡ o → deciding_sample i (sampled_found w n j f) ≡ deciding_sample i f
  by None at = undecided i (sampled_found w n j f) (join_none w n j i f DecidingRead at) ∙ sym (undecided i f at)
  by (Some x) at =
      let y = join_is i DecidingRead f.machine x at in
      let q = k.watched x y.own y.joins in
      decides_if i (sampled_found w n j f) x q.first (first_still w h n j i f c k x q)
      (join_still w h n j i f c k DecidingRead x at (other_step i f c x DecidingRead apart at))
      ∙ sym (decides_if i f x q.first q.looked at)

one_sector_left : (op : Op) (j n : ℕ) → op ≡ ReadSectors 1 → j ≤ sectors_of op - n → j ≤ 1 - n
one_sector_left op j n is few = subst (λ x. j ≤ sectors_of x - n) is few

more_of : (w : World) (h : Header) (n j : ℕ) (i : SessionId) (f : Found) (c : Course) → IsSampledCall w h n j i f c → (step : JoinStep) → is_reading_step step ≡ true
    → join_course i step f.machine ≡ Some c → MoreSampled w j c
more_of w h n j i f c k step reads at =
    more_sampled w j c k.sized (one_sector_left c.call.op j (length c.samples) (k.reads step reads (join_is i step f.machine c at)) k.few)

decides_more : (w : World) (h : Header) (n j : ℕ) (i : SessionId) (f : Found) (c : Course) → IsSampledCall w h n j i f c → is_join_call DecidingRead c.call.purpose ≡ true
    → (deciding_sample i (sampled_found w n j f) ≡ deciding_sample i f)
    ⊎ ShowsNow w f (watched_bytes i f) c (deciding_sample i f) (deciding_sample i (sampled_found w n j f))
decides_more w h n j i f c k is =
    let q = k.watched c k.own is in
    let g : Found = sampled_found w n j f in
    let before = decides_if i f c q.first q.looked q.only in
    let later = decides_if i g (sampled_more w j c) q.first (first_still w h n j i f c k c q) (join_more w h n j i f c k DecidingRead q.only) in
    let bytes : watched_bytes i f ≡ Some q.first.sampled = ap (λ o. option_map (λ x. x.sampled) o) q.looked in
    subst (λ b. (deciding_sample i g ≡ deciding_sample i f) ⊎ ShowsNow w f b c (deciding_sample i f) (deciding_sample i g)) (sym bytes)
    (subst (λ o. (o ≡ deciding_sample i f) ⊎ ShowsNow w f (Some q.first.sampled) c (deciding_sample i f) o) (sym later)
    (subst (λ o. (sample_showing f (Some q.first.sampled) (sampled_more w j c) ≡ o)
    ⊎ ShowsNow w f (Some q.first.sampled) c o (sample_showing f (Some q.first.sampled) (sampled_more w j c))) (sym before)
    (shows_more w j f (Some q.first.sampled) c (more_of w h n j i f c k DecidingRead refl q.only))))

-- ---- the verify read

spelled_by : (w v : World) (n j : ℕ) (i : SessionId) (f : Found) → v.layout ≡ w.layout → (o : Option Course)
    → option_map (λ c. write_bytes v c.call) (option_map (turned w n j) o) ≡ option_map (λ c. write_bytes w c.call) o
spelled_by w v n j i f layout None = refl
spelled_by w v n j i f layout (Some c) =
    ap (λ x. Some (write_bytes v x)) (keeps_rest w n j c).call ∙ ap (λ g. Some (write_bytes (record v { layout = g }) c.call)) layout

claim_still : (w v : World) (n j : ℕ) (i : SessionId) (f : Found) → v.layout ≡ w.layout → claim_bytes v i (sampled_found w n j f) ≡ claim_bytes w i f
claim_still w v n j i f layout =
    ap (λ o. option_map (λ (c : Course). write_bytes v c.call) o) (join_sampled w n j i ClaimWrite f)
    ∙ spelled_by w v n j i f layout (join_course i ClaimWrite f.machine)

verifies_as : (w v : World) (n j : ℕ) (i : SessionId) (f : Found) → v.layout ≡ w.layout → (o : Option Course)
    → join_course i VerifyRead (sampled_found w n j f).machine ≡ o
    → verifying_sample v i (sampled_found w n j f) ≡ option_and_then (sample_showing f (claim_bytes w i f)) o
verifies_as w v n j i f layout o at =
    ap (λ x. option_and_then (sample_showing (sampled_found w n j f) (claim_bytes v i (sampled_found w n j f))) x) at
    ∙ ap (λ b. option_and_then (sample_showing f b) o) (claim_still w v n j i f layout)

verifies_still : (w v : World) (h : Header) (n j : ℕ) (i : SessionId) (f : Found) (c : Course) → v.layout ≡ w.layout → IsSampledCall w h n j i f c
    → is_join_call VerifyRead c.call.purpose ≡ false → verifying_sample v i (sampled_found w n j f) ≡ verifying_sample w i f
verifies_still w v h n j i f c layout k apart = by (join_course i VerifyRead f.machine) refl where
  by : (o : Option Course) → join_course i VerifyRead f.machine ≡ o → verifying_sample v i (sampled_found w n j f) ≡ verifying_sample w i f
  by None at =
      verifies_as w v n j i f layout None (join_none w n j i f VerifyRead at)
      ∙ sym (ap (λ o. option_and_then (sample_showing f (claim_bytes w i f)) o) at)
  by (Some x) at =
      verifies_as w v n j i f layout (Some x) (join_still w h n j i f c k VerifyRead x at (other_step i f c x VerifyRead apart at))
      ∙ sym (ap (λ o. option_and_then (sample_showing f (claim_bytes w i f)) o) at)

verifies_more : (w v : World) (h : Header) (n j : ℕ) (i : SessionId) (f : Found) (c : Course) → v.layout ≡ w.layout → IsSampledCall w h n j i f c
    → is_join_call VerifyRead c.call.purpose ≡ true
    → (verifying_sample v i (sampled_found w n j f) ≡ verifying_sample w i f)
    ⊎ ShowsNow w f (claim_bytes w i f) c (verifying_sample w i f) (verifying_sample v i (sampled_found w n j f))
verifies_more w v h n j i f c layout k is =
    let q = k.claimed c k.own is in
    let g : Found = sampled_found w n j f in
    let bytes : Option (List ℕ) = claim_bytes w i f in
    let before : verifying_sample w i f ≡ sample_showing f bytes c = ap (λ o. option_and_then (sample_showing f bytes) o) q.only in
    let later : verifying_sample v i g ≡ sample_showing f bytes (sampled_more w j c) =
    verifies_as w v n j i f layout (Some (sampled_more w j c)) (join_more w h n j i f c k VerifyRead q.only) in
    subst (λ o. (o ≡ verifying_sample w i f) ⊎ ShowsNow w f bytes c (verifying_sample w i f) o) (sym later)
    (subst (λ o. (sample_showing f bytes (sampled_more w j c) ≡ o) ⊎ ShowsNow w f bytes c o (sample_showing f bytes (sampled_more w j c))) (sym before)
    (shows_more w j f bytes c (more_of w h n j i f c k VerifyRead refl q.only)))

-- ---- both

pub data Outcome (w v : World) (n j : ℕ) (i : SessionId) (f : Found) (c : Course) : Type 0 where
  Stays : deciding_sample i (sampled_found w n j f) ≡ deciding_sample i f → verifying_sample v i (sampled_found w n j f) ≡ verifying_sample w i f
      → Outcome w v n j i f c
  Decides_now : is_join_call DecidingRead c.call.purpose ≡ true
      → ShowsNow w f (watched_bytes i f) c (deciding_sample i f) (deciding_sample i (sampled_found w n j f))
      → verifying_sample v i (sampled_found w n j f) ≡ verifying_sample w i f → Outcome w v n j i f c
  Verifies_now : is_join_call VerifyRead c.call.purpose ≡ true
      → deciding_sample i (sampled_found w n j f) ≡ deciding_sample i f
      → ShowsNow w f (claim_bytes w i f) c (verifying_sample w i f) (verifying_sample v i (sampled_found w n j f)) → Outcome w v n j i f c

not_verifying : (p : Purpose) → is_join_call DecidingRead p ≡ true → is_join_call VerifyRead p ≡ false
not_verifying p is = let j = joining_is DecidingRead p is in ap (λ x. is_join_call VerifyRead x) j.joining

pub outcome : (w v : World) (h : Header) (n j : ℕ) (i : SessionId) (f : Found) (c : Course) → v.layout ≡ w.layout → IsSampledCall w h n j i f c → Outcome w v n j i f c
outcome w v h n j i f c layout k = by (is_join_call DecidingRead c.call.purpose) (is_join_call VerifyRead c.call.purpose) refl refl where
  decided : is_join_call DecidingRead c.call.purpose ≡ true → (verifying_sample v i (sampled_found w n j f) ≡ verifying_sample w i f)
      → (deciding_sample i (sampled_found w n j f) ≡ deciding_sample i f)
      ⊎ ShowsNow w f (watched_bytes i f) c (deciding_sample i f) (deciding_sample i (sampled_found w n j f)) → Outcome w v n j i f c
  decided is same (inl stays) = Stays stays same
  decided is same (inr now) = Decides_now is now same

  verified : is_join_call VerifyRead c.call.purpose ≡ true → (deciding_sample i (sampled_found w n j f) ≡ deciding_sample i f)
      → (verifying_sample v i (sampled_found w n j f) ≡ verifying_sample w i f)
      ⊎ ShowsNow w f (claim_bytes w i f) c (verifying_sample w i f) (verifying_sample v i (sampled_found w n j f)) → Outcome w v n j i f c
  verified is same (inl stays) = Stays same stays
  verified is same (inr now) = Verifies_now is same now

  by : (a b : Bool) → is_join_call DecidingRead c.call.purpose ≡ a → is_join_call VerifyRead c.call.purpose ≡ b → Outcome w v n j i f c
  by true b is at = decided is (verifies_still w v h n j i f c layout k (not_verifying c.call.purpose is)) (decides_more w h n j i f c k is)
  by false true is at = verified at (decides_still w h n j i f c k is) (verifies_more w v h n j i f c layout k at)
  by false false is at = Stays (decides_still w h n j i f c k is) (verifies_still w v h n j i f c layout k at)
