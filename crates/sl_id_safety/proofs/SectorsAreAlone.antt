-- What lands in a joined session's sector, until it is over, is of its own writes, but what came before its claim: above the claim's
-- number it alone has written, and what has no greater number than the claim came before it.
use Rattle.sl_area.specs.AreaSizes.{Layout}
use Rattle.sl_area.specs.AreaLayout.{delta_offset}
use Rattle.sl_run_law.proofs.Front.JoinedLists.{placed_at}
use Rattle.sl_id_safety.proofs.JoinedStand.{joined_stand}
use Rattle.sl_id_safety.specs.Interface.{SectorsAreAlone}
use Rattle.sl_id_safety.specs.JoinedStand.{StandsJoined, sector_offset}
use Rattle.sl_id_safety.proofs.State.TraceBridge.{known}
use Rattle.sl_id_safety.proofs.State.Members.{pair_of}
use Rattle.sl_id_safety.proofs.State.SessionFacts.{grounds}
use Rattle.sl_id_safety.specs.State.IdStates.{holder_at, id_state, index_of, is_left_by, join_course, landing_of, name_of, own_courses, submitter_of, submitter_on, writer_of}
use Rattle.sl_id_safety.proofs.Steps.RenewalsAboveClaims.{left_name}
use Rattle.sl_id_safety.proofs.Steps.RenewalCalls.{IsNumbered, lesser, numbered}
use Rattle.sl_id_safety.specs.Reached.IdsAreReached.{IdsAreReached}
use Rattle.sl_ids.proofs.DerivedLaws.{watchdogs}
use Rattle.sl_ids.proofs.WholeRuns.{reached_kept}
use Rattle.sl_ids.specs.Guards.{terms_of}
use Rattle.sl_ids.specs.Listed.{no_landing}
use Rattle.sl_ids.specs.State.{Landing as IdLanding, SessionId as IdName, State}
use Rattle.sl_ids.specs.Terms.{Terms}
use Rattle.sl_run_law.proofs.Landing.LandingOrder.{come_in_order}
use Rattle.sl_run_law.proofs.Landing.LandingLaws.{landings_are_written}
use Rattle.sl_run_law.proofs.Place.TracesOnMachines.{session_inside}
use Rattle.sl_words.proofs.Lists.{find_fails, find_inside, kept_inside}
use Rattle.sl_words.proofs.Numbers.{one_index}
use Rattle.sl_words.proofs.Options.{mapped_value}
use Rattle.sl_run.specs.Runs.{Happening}
use Rattle.sl_run.specs.Safety.{CameBeforeClaim, Found, IsOwnLanding, IsSession, LawfulRun, SessionId, is_course_of, is_over, setting_in, world_at}
use Rattle.sl_run.specs.Worlds.{Course, Landing, Machine, Program, World, first_landing, history_of, landed_at, machine_at}
use Rattle.sl_run.specs.declared.header.Header.{Header}
use Rattle.sl_trace.specs.Sessions.{is_join_call}
use Rattle.sl_trace.specs.Traces.{same_place}
use Rattle.sl_trace.specs.declared.effects.JoinStep.TheVariants.{ClaimWrite}
use Rattle.sl_words.proofs.CaseLaws.{one_value, true_is_false}
use Rattle.sl_words.proofs.WordLaws.{and_true}
use Rattle.std.proofs.Common.{ap, arith, inl, inr, refl, subst, sym, ◌∙◌}
use Rattle.std.proofs.lemmas.Bool.{and_from, cases_lt, eq-eqb, eqb-true, le-leb, leb-true}
use Rattle.std.proofs.lemmas.List.Kept.{AllPairs-filter}
use Rattle.std.specs.Option.{option_map_or}
use Rattle.std.specs.Prelude.{AllPairs, Bool, Contains, List, None, Option, Some, [], false, find, nat_le, option_and_then, slice_get, true, ℕ, ◌&&◌, ◌++◌, ◌<◌, ◌==◌, ◌∷◌, ◌≡◌, ◌≤◌, ◌⊎◌}

-- ---- the writer of a landing

same_numbers : (m d n k e l : ℕ) → m ≡ k → d ≡ e → n ≡ l → (d == e && n == l) ≡ true
same_numbers m d n k e l one two three = and_from (d == e) (n == l) (eq-eqb d e two) (eq-eqb n l three)

-- The call that left a landing which the session wrote is the session's.
own_of_writer : (p : Program) (h : Header) (xs : List Happening) → LawfulRun p h xs → (i : SessionId) (f : Found) → IsSession (world_at p h xs) i f
    → (l : Landing) → Contains (world_at p h xs).landings l → writer_of (world_at p h xs) l ≡ Some (name_of i) → (c : Course) × IsOwnLanding i f c l
own_of_writer p h xs run i f its l there wrote =
    let w : World = world_at p h xs in
    let k = landings_are_written p h xs run l there in
    let named : submitter_of w (k.machine, k.call) ≡ Some (name_of i) =
    sym (ap (λ o. elim o as (λ z. Option IdName) [ None ↦ holder_at w l.path l.offset | Some q ↦ submitter_of w q ]) k.named) ∙ wrote in
    let on : submitter_on k.machine k.call k.wrote.machine ≡ Some (name_of i) =
    sym (ap (λ o. option_and_then (submitter_on k.machine k.call) o) k.wrote.at) ∙ named in
    let c = mapped_value (λ (c : Course). let n : IdName = record { machine = k.machine; daemon = c.daemon; number = c.call.session } in n)
    (find (λ (c : Course). c.call.number == k.call) k.wrote.machine.calls) (name_of i) on in
    let found = find_inside (λ (c : Course). c.call.number == k.call) k.wrote.machine.calls c.0 c.1 in
    let machine : k.machine ≡ i.machine = ap (λ (n : IdName). n.machine) c.2 in
    let same : k.wrote.machine ≡ f.machine =
    one_value k.wrote.machine f.machine (machine_at w i.machine) (subst (λ m. machine_at w m ≡ Some k.wrote.machine) machine k.wrote.at) (session_inside w i f its).at in (
      c.0,
      (
        subst (λ (a : Machine). Contains a.calls c.0) same found.0,
        same_numbers k.machine c.0.daemon c.0.call.session i.machine i.daemon i.number machine (ap (λ (n : IdName). n.daemon) c.2) (ap (λ (n : IdName). n.number) c.2),
        k.named ∙ ap (λ m. let q : Option (ℕ × ℕ) = Some (m, k.call) in q) machine
            ∙ ap (λ n. let q : Option (ℕ × ℕ) = Some (i.machine, n) in q) (sym (eqb-true c.0.call.number k.call found.1)),
      ),
    )

-- ---- landings of one step

abbrev IsNewer : Landing → Landing → Type 0
IsNewer newer older = (older.step < newer.step) × (older.moment ≤ newer.moment)

not_same : (a b : ℕ) → a < b → a ≡ b → ⊥
not_same a b less same = omega (arith, less, same)

-- Landings of one step are one.
one_step : (p : Program) (h : Header) (xs : List Happening) → LawfulRun p h xs → (l k : Landing) → Contains (world_at p h xs).landings l
    → Contains (world_at p h xs).landings k → l.step ≡ k.step → l ≡ k
one_step p h xs run l k this that same =
    let ls : List Landing = (world_at p h xs).landings in
    let i = placed_at ls l this in
    let j = placed_at ls k that in
    let order : AllPairs IsNewer ls = come_in_order p h xs run in
    let one : i.0 ≡ j.0 =
    one_index i.0 j.0 (λ less. not_same k.step l.step (pair_of IsNewer ls i.0 j.0 l k order i.1 j.1 less).0 (sym same))
    (λ less. not_same l.step k.step (pair_of IsNewer ls j.0 i.0 k l order j.1 i.1 less).0 same) in
    one_value l k (slice_get ls j.0) (subst (λ n. slice_get ls n ≡ Some l) one i.1) j.1

same_step : (a b : ℕ) → a ≤ b → b ≤ a → a ≡ b
same_step a b p q = omega (arith, p, q)

-- ---- above the claim, or before it

-- A landing in the session's sector, with its number.
record IsIn (p : Program) (h : Header) (xs : List Happening) (i : SessionId) (f : Found) (l : Landing) : Type 0 where
  run : LawfulRun p h xs
  its : IsSession (world_at p h xs) i f
  stands : StandsJoined p h (world_at p h xs) i f
  alive : is_over i f ≡ false
  layout : (setting_in f).layout ≡ (world_at p h xs).layout
  there : Contains (landed_at (world_at p h xs) f.session.path (sector_offset (world_at p h xs) f)) l
  number : IsNumbered (landed_at (world_at p h xs) f.session.path (sector_offset (world_at p h xs) f))
      (first_landing (world_at p h xs) f.session.path (sector_offset (world_at p h xs) f)) l

abbrev sector_state : World → Found → State
sector_state w f = id_state w f.session.path (sector_offset w f)

landed_there : (w : World) (path : List ℕ) (offset : ℕ) (l : Landing) → Contains (landed_at w path offset) l → Contains w.landings l
landed_there w path offset l there = (kept_inside (λ (x : Landing). same_place x.path x.offset path offset) w.landings l there).0

-- Of a greater number than the claim: it is the session's.
above_is_own : IdsAreReached → (p : Program) (h : Header) (xs : List Happening) (i : SessionId) (f : Found) (l : Landing) → (k : IsIn p h xs i f l)
    → ((sector_state (world_at p h xs) f).session (name_of i)).claim < k.number.index → (c : Course) × IsOwnLanding i f c l
above_is_own reached p h xs i f l k above =
    let w : World = world_at p h xs in
    let r : Terms = terms_of h.timing in
    let path : List ℕ = f.session.path in
    let offset : ℕ = sector_offset w f in
    let v : State = id_state w path offset in
    let kept = reached_kept r v (watchdogs.long h.timing k.run.header.timing) (reached p h xs path offset k.run k.stands.place) in
    let writer : (v.landing k.number.index).writer ≡ Some (name_of i) =
    (kept.0.one (name_of i)).owner k.stands.verified (k.stands.over ∙ k.alive) k.number.index above k.number.within in
    let landing : v.landing k.number.index ≡ landing_of w l = ap (λ o. option_map_or (landing_of w) o no_landing) k.number.at in
    own_of_writer p h xs k.run i f k.its l (landed_there w path offset l k.there) (sym (ap (λ (x : IdLanding). x.writer) landing) ∙ writer)

abbrev IsAlone : World → SessionId → Found → Landing → Type 0
IsAlone w i f l = ((c : Course) × IsOwnLanding i f c l) ⊎ CameBeforeClaim w i f l

-- Whether a landing was left by this call, and no earlier than at this step.
abbrev left_since : ℕ × ℕ → ℕ → Landing → Bool
left_since q step x = is_left_by q x && nat_le step x.step

left_before : (q : ℕ × ℕ) (step : ℕ) (x : Landing) → left_since q step x ≡ false → is_left_by q x ≡ true → x.step < step
left_before q step x none left =
    elim (cases_lt x.step step) as (λ z. x.step < step) [
      | inl less ↦ less
      | inr most ↦ absurd (true_is_false (sym (and_from (is_left_by q x) (nat_le step x.step) left (le-leb step x.step most)) ∙ none))
    ]

-- The call that the claim's landing is of.
claim_is_own : (i : SessionId) (f : Found) (c : Course) (x : Landing) → join_course i ClaimWrite f.machine ≡ Some c → is_left_by (i.machine, c.call.number) x ≡ true
    → IsOwnLanding i f c x × (is_join_call ClaimWrite c.call.purpose ≡ true) × (x.whole ≡ true)
claim_is_own i f c x at left =
    let found = find_inside (λ (y : Course). is_join_call ClaimWrite y.call.purpose) (own_courses i f.machine) c at in
    let mine = kept_inside (is_course_of i) f.machine.calls c found.0 in
    let both = and_true x.whole _ left in
    ((mine.0, mine.1, left_name i.machine c.call.number x.writer both.1), found.1, both.0)

by_claim : IdsAreReached → (p : Program) (h : Header) (xs : List Happening) (i : SessionId) (f : Found) (l : Landing) → IsIn p h xs i f l → (o : Option Course)
    → join_course i ClaimWrite f.machine ≡ o → IsAlone (world_at p h xs) i f l
by_claim reached p h xs i f l k None at =
    let w : World = world_at p h xs in
    let none : ((sector_state w f).session (name_of i)).claim ≡ 0 =
    ap (λ (s : _). s.claim) k.stands.stands
    ∙ ap (λ o. option_map_or (λ (c : Course). index_of (i.machine, c.call.number) (history_of w f.session.path (sector_offset w f))) o 0) at in
    inl (above_is_own reached p h xs i f l k (subst (λ n. n < k.number.index) (sym none) k.number.some))
by_claim reached p h xs i f l k (Some c) at = by (find (left_since q l.step) ls) refl where
  w : World
  w = world_at p h xs

  q : ℕ × ℕ
  q = (i.machine, c.call.number)

  ls : List Landing
  ls = landed_at w f.session.path (sector_offset w f)

  claim : ((sector_state w f).session (name_of i)).claim ≡ index_of q (history_of w f.session.path (sector_offset w f))
  claim =
      ap (λ (s : _). s.claim) k.stands.stands
      ∙ ap (λ o. option_map_or (λ (c : Course). index_of (i.machine, c.call.number) (history_of w f.session.path (sector_offset w f))) o 0) at

  by : (o : Option Landing) → find (left_since q l.step) ls ≡ o → IsAlone w i f l
  by None none =
      let below : index_of q (ls ++ first_landing w f.session.path (sector_offset w f) ∷ []) < k.number.index =
      lesser q ls (first_landing w f.session.path (sector_offset w f)) l k.number.index k.number.some k.number.at
      (AllPairs-filter IsNewer (λ (x : Landing). same_place x.path x.offset f.session.path (sector_offset w f)) w.landings (come_in_order p h xs k.run))
      (λ x has left. left_before q l.step x (find_fails (left_since q l.step) ls x none has) left) in
      inl (above_is_own reached p h xs i f l k (subst (λ n. n < k.number.index) (sym claim) below))
  by (Some x) some =
      let found = find_inside (left_since q l.step) ls x some in
      let both = and_true (is_left_by q x) (nat_le l.step x.step) found.1 in
      let own = claim_is_own i f c x at both.0 in
      elim (cases_lt l.step x.step) as (λ z. IsAlone w i f l) [
        | inl less ↦ inr (record {
          claim = c;
          landing = x;
          landed = (subst (λ (g : Layout). Contains (landed_at w f.session.path (delta_offset g f.session.offset f.session.id)) x) (sym k.layout) found.0, own.0);
          of_claim = (own.1, own.2);
          before = less;
        })
        | inr most ↦ inl (
          c,
          subst (λ (y : Landing). IsOwnLanding i f c y)
              (one_step p h xs k.run x l (landed_there w f.session.path (sector_offset w f) x found.0) (landed_there w f.session.path (sector_offset w f) l k.there)
              (same_step x.step l.step most (leb-true l.step x.step both.1))) own.0,
        )
      ]

pub sectors_are_alone_given : IdsAreReached → SectorsAreAlone
sectors_are_alone_given reached p h xs run i f l its joined alive there =
    let w : World = world_at p h xs in
    let layout : (setting_in f).layout ≡ w.layout = (known grounds p h xs run i f its).of_world.layout in
    let has : Contains (landed_at w f.session.path (sector_offset w f)) l =
    subst (λ (g : Layout). Contains (landed_at w f.session.path (delta_offset g f.session.offset f.session.id)) l) layout there in
    by_claim reached p h xs i f l
    (record {
      run = run;
      its = its;
      stands = joined_stand p h xs run i f its joined;
      alive = alive;
      layout = layout;
      there = has;
      number = numbered (landed_at w f.session.path (sector_offset w f)) (first_landing w f.session.path (sector_offset w f)) l has;
    })
    (join_course i ClaimWrite f.machine) refl
