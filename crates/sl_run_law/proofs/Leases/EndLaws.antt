-- Ballots that ended, and the leaders that follow them.
use Rattle.sl_area.specs.AreaSizes.{Layout}
use Rattle.sl_run.specs.Lawful.{Orderly}
use Rattle.sl_run.specs.LawfulLeader.{HasWon, LawfulFreeLeader, LawfulLeaderWrite, LawfulTake}
use Rattle.sl_run.specs.LawForms.{cut_at}
use Rattle.sl_run_law.proofs.Leases.AgeLaws.{aged_block, aged_lease, blocks_stay, kind_stays}
use Rattle.sl_run_law.proofs.Leases.FrontLaws.{each_was_submitted, lawful_there}
use Rattle.sl_run_law.specs.Leases.CallFronts.{AllAged, LawfulSubmission, Submission}
use Rattle.sl_run_law.specs.Leases.LeaseLaws.{LeadersFollow}
use Rattle.sl_run_law.specs.Leases.Ways.{Ended, LeaderRests, lease_among}
use Rattle.sl_trace.specs.Ballots.{stop_of, value_of}
use Rattle.sl_trace.specs.Leases.{Phase2_read, block_submitted, blocks_given, ended_ballot, ended_ballots, freed, freed_by, is_at, leader_written, lease_calls, spot_of_call, value_in_end}
use Rattle.sl_trace.specs.declared.lease.Stop.{Stop}
use Rattle.sl_sector.specs.declared.sector.Block.{Block}
use Rattle.sl_sector.specs.declared.sector.Leader.{Leader}
use Rattle.sl_sector.specs.declared.sector.Owner.{Owner}
use Rattle.sl_trace.specs.Sessions.{me, session_numbered}
use Rattle.sl_trace.specs.declared.session.Session.{Session}
use Rattle.sl_trace.specs.Traces.{Setting, Submitted, Trace, new_call, submitted}
use Rattle.sl_trace.specs.declared.effects.Call.{Call}
use Rattle.sl_trace.specs.declared.effects.Spot.{Spot}
use Rattle.sl_words.proofs.CaseLaws.{false_is_true, none_some, one_value, some_value}
use Rattle.std.proofs.Common.{ap, arith, inl, inr, refl, subst, sym, ◌∙◌}
use Rattle.std.specs.Prelude.{Bool, Contains, List, MatchBool, None, Option, Some, false, length, max, option_and_then, slice_index_or, suc, true, zero, [], ℕ, ◌++◌, ◌+◌, ◌<◌, ◌∷◌, ◌≡◌, ◌⊎◌}

contains_at : {A : Type 0} (x : A) (xs : List A) (d : A) (k : ℕ) → k < length (x ∷ xs) → slice_index_or (x ∷ xs) k d ≡ d → (x ≡ d) ⊎ Contains xs d
contains_at x xs d zero less is = inl is
contains_at x xs d (suc k) less is = inr (k, omega (arith, less), is)

ended_later : (g : Layout) (m : Submitted) (ms : List Submitted) (p : ℕ × Owner) → Ended g ms p → Ended g (m ∷ ms) p
ended_later g m ms p h =
    record {
      newer = m ∷ h.newer;
      read = h.read;
      before = h.before;
      own = h.own;
      blocks = h.blocks;
      is = ap (λ xs. m ∷ xs) h.is;
      reads = h.reads;
      block = h.block;
      given = h.given;
      clear = h.clear;
      what = h.what;
    }

-- The ballot that this read ended.
by_end : (g : Layout) (m : Submitted) (ms : List Submitted) (p : ℕ × Owner) → is_at Phase2_read m ≡ true → (own : Block) → block_submitted ms ≡ Some own
    → (bs : List (Option Block)) → blocks_given g m ms ≡ Some bs → (stop : Option Stop) → stop_of own bs ≡ stop → value_in_end own stop ≡ Some p → Ended g (m ∷ ms) p
by_end g m ms p at own block bs given None clear is =
    record {
      newer = [];
      read = m;
      before = ms;
      own = own;
      blocks = bs;
      is = refl;
      reads = at;
      block = block;
      given = given;
      clear = clear;
      what = some_value (own.lver, value_of own) p is;
    }
by_end g m ms p at own block bs given (Some stop) clear is = absurd (none_some p is)

by_blocks : (g : Layout) (m : Submitted) (ms : List Submitted) (p : ℕ × Owner) → is_at Phase2_read m ≡ true → (own : Block) → block_submitted ms ≡ Some own
    → (o : Option (List (Option Block))) → blocks_given g m ms ≡ o → option_and_then (λ bs. value_in_end own (stop_of own bs)) o ≡ Some p → Ended g (m ∷ ms) p
by_blocks g m ms p at own block None given is = absurd (none_some p is)
by_blocks g m ms p at own block (Some bs) given is = by_end g m ms p at own block bs given (stop_of own bs) refl is

by_own : (g : Layout) (m : Submitted) (ms : List Submitted) (p : ℕ × Owner) → is_at Phase2_read m ≡ true → (o : Option Block) → block_submitted ms ≡ o
    → option_and_then (λ own. option_and_then (λ bs. value_in_end own (stop_of own bs)) (blocks_given g m ms)) o ≡ Some p → Ended g (m ∷ ms) p
by_own g m ms p at None block is = absurd (none_some p is)
by_own g m ms p at (Some own) block is = by_blocks g m ms p at own block (blocks_given g m ms) refl is

by_kind : (g : Layout) (m : Submitted) (ms : List Submitted) (p : ℕ × Owner) → (b : Bool) → is_at Phase2_read m ≡ b
    → elim b as (λ x. Option (ℕ × Owner)) [ false ↦ None | true ↦ option_and_then (λ own. option_and_then (λ bs. value_in_end own (stop_of own bs)) (blocks_given g m ms)) (block_submitted ms) ] ≡ Some p
    → Ended g (m ∷ ms) p
by_kind g m ms p false at is = absurd (none_some p is)
by_kind g m ms p true at is = by_own g m ms p at (block_submitted ms) refl is

found_end : (g : Layout) (m : Submitted) (ms : List Submitted) (p q : ℕ × Owner) → ended_ballot g m ms ≡ Some q → (q ≡ p) ⊎ Contains (ended_ballots g ms) p
    → (Contains (ended_ballots g ms) p → Ended g ms p) → Ended g (m ∷ ms) p
found_end g m ms p q is (inl same) later = by_kind g m ms p (is_at Phase2_read m) refl (is ∙ ap (λ x. Some x) same)
found_end g m ms p q is (inr h) later = ended_later g m ms p (later h)

ended_by : (g : Layout) (m : Submitted) (ms : List Submitted) (p : ℕ × Owner) → (o : Option (ℕ × Owner)) → ended_ballot g m ms ≡ o
    → Contains (elim o as (λ x. List (ℕ × Owner)) [ None ↦ ended_ballots g ms | Some q ↦ q ∷ ended_ballots g ms ]) p
    → (Contains (ended_ballots g ms) p → Ended g ms p) → Ended g (m ∷ ms) p
ended_by g m ms p None is h later = ended_later g m ms p (later h)
ended_by g m ms p (Some q) is h later = found_end g m ms p q is (contains_at q (ended_ballots g ms) p h.0 h.1 h.2) later

pub ended : (g : Layout) (ms : List Submitted) (p : ℕ × Owner) → Contains (ended_ballots g ms) p → Ended g ms p
ended g [] p h = let less : h.0 < 0 = h.1 in absurd (omega (arith, less))
ended g (m ∷ ms) p h = ended_by g m ms p (ended_ballot g m ms) refl h (λ later. ended g ms p later)

-- ---- what ended stays ended

aged_end : (g : Layout) (n : ℕ) (newer before : List Submitted) (read : Submitted) (ys : List Submitted) (p : ℕ × Owner) → AllAged n (newer ++ read ∷ before) ys
    → is_at Phase2_read read ≡ true → (own : Block) → block_submitted before ≡ Some own → (bs : List (Option Block)) → blocks_given g read before ≡ Some bs → stop_of own bs ≡ None
    → (own.lver, value_of own) ≡ p → Ended g ys p
aged_end g n [] before read [] p h at own block bs given clear what = absurd h
aged_end g n [] before read (y ∷ ys) p h at own block bs given clear what =
    record {
      newer = [];
      read = y;
      before = ys;
      own = own;
      blocks = bs;
      is = refl;
      reads = kind_stays Phase2_read n read y h.0 at;
      block = sym (aged_block n before ys h.1) ∙ block;
      given = blocks_stay g n read y before ys bs h.0 h.1 given;
      clear = clear;
      what = what;
    }
aged_end g n (x ∷ xs) before read [] p h at own block bs given clear what = absurd h
aged_end g n (x ∷ xs) before read (y ∷ ys) p h at own block bs given clear what =
    ended_later g y ys p (aged_end g n xs before read ys p h.1 at own block bs given clear what)

pub ended_stays : (g : Layout) (n : ℕ) (xs ys : List Submitted) (p : ℕ × Owner) → AllAged n xs ys → Ended g xs p → Ended g ys p
ended_stays g n xs ys p h e =
    aged_end g n e.newer e.before e.read ys p (subst (λ zs. AllAged n zs ys) e.is h) e.reads e.own e.block e.blocks e.given e.clear e.what

-- ---- frees

pub aged_freed : (n : ℕ) (xs ys : List Submitted) → AllAged n xs ys → freed xs ≡ freed ys
aged_freed n [] [] h = refl
aged_freed n [] (y ∷ ys) h = absurd h
aged_freed n (x ∷ xs) [] h = absurd h
aged_freed n (x ∷ xs) (y ∷ ys) h =
    ap (λ c. max (freed_by (new_call 0 0 c)) (freed xs)) (sym h.0.call) ∙ ap (λ k. max (freed_by y) k) (aged_freed n xs ys h.1)

-- ---- the law

won_by_ballot : (st : Setting) (t : Trace) (s : Session) (at : Spot) (c : Submitted) (l : Leader) (b : Bool) → MatchBool b (LawfulTake st t s at c l) (LawfulFreeLeader st t s at c l)
    → HasWon st t s at l.lver
won_by_ballot st t s at c l true h = h.won
won_by_ballot st t s at c l false h = h.won

taken_above : (st : Setting) (t : Trace) (s : Session) (at : Spot) (c : Submitted) (l : Leader) (b : Bool) → MatchBool b (LawfulTake st t s at c l) (LawfulFreeLeader st t s at c l) → b ≡ true
    → freed (lease_calls st t s at) < l.lver
taken_above st t s at c l true h held = h.not_freed
taken_above st t s at c l false h held = absurd (false_is_true held)

abbrev place : Setting → Call → Spot
place st c = spot_of_call st.layout (new_call 0 0 c)

leader_rests : (st : Setting) (es : Trace) (s : Session) (at : Spot) (older : List Submitted) (c : Submitted) (l : Leader) → (h : Submission es c older)
    → LawfulLeaderWrite st (cut_at h.place h.entry ∷ h.past) s at (new_call (length h.past) h.entry.reading h.call) l → LeaderRests st es s at older c l
leader_rests st es s at older c l h w =
    let t : Trace = cut_at h.place h.entry ∷ h.past in
    let n : ℕ = length h.past + 1 in
    let new : Submitted = new_call (length h.past) h.entry.reading h.call in
    let aged : AllAged n (lease_calls st t s at) (lease_among st s at older) = aged_lease st s at n (submitted t) older h.before in
    record {
      submission = h;
      owner = w.own;
      won = ended_stays st.layout n (lease_calls st t s at) (lease_among st s at older) (l.lver, me t s) aged
          (ended st.layout (lease_calls st t s at) (l.lver, me t s) (won_by_ballot st t s at new l l.held w.ballot));
      not_freed = λ held. subst (λ k. k < l.lver) (aged_freed n (lease_calls st t s at) (lease_among st s at older) aged) (taken_above st t s at new l l.held w.ballot held);
    }

follow : (st : Setting) (es : Trace) → Orderly st es → (older : List Submitted) (c : Submitted) (l : Leader) → LawfulSubmission st es c older
    → leader_written c ≡ Some l → (s : Session) → session_numbered st es c.call.session ≡ Some s → LeaderRests st es s (place st c.call) older c l
follow st es law older c l known_as wrote s numbered =
    let h : Submission es c older = known_as.submission in
    let t : Trace = cut_at h.place h.entry ∷ h.past in
    let called : c.call ≡ h.call = h.itself.call in
    let itself : known_as.session ≡ s = one_value known_as.session s (session_numbered st es c.call.session) known_as.kept numbered in
    let known : session_numbered st (h.entry ∷ h.past) h.call.session ≡ Some s = known_as.known ∙ ap (λ x. Some x) itself in
    let w : LawfulLeaderWrite st t s (place st h.call) (new_call (length h.past) h.entry.reading h.call) l =
    (lawful_there st es law c older h).leader.0.writes h.place h.call s h.there known l (ap (λ x. leader_written (new_call 0 0 x)) (sym called) ∙ wrote) in
    subst (λ x. LeaderRests st es s (place st x) older c l) (sym called) (leader_rests st es s (place st h.call) older c l h w)

pub leaders_follow : LeadersFollow
leaders_follow st es law newer older c l h wrote s numbered = follow st es law older c l (each_was_submitted st es law newer older c h) wrote s numbered
