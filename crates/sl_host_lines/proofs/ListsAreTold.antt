-- Lists that are told are made element by element.
use Rattle.sl_host_lines.proofs.TakenFronts.{taken_more}
use Rattle.sl_host_lines.specs.ToldSessions.{session_in, sessions_in, state_seen, states_in}
use Rattle.sl_host_state.specs.KeptState.{MemberState}
use Rattle.sl_trace.specs.declared.reply.SessionOf.{SessionOf}
use Rattle.sl_trace.specs.declared.reply.StateOf.{StateOf}
use Rattle.std.proofs.Common.{ap, arith, length-append, refl, ◌∙◌}
use Rattle.std.proofs.lemmas.List.FromFn.{map-range_with_len_more}
use Rattle.std.specs.Prelude.{Bool, List, Some, [], cond, false, filter, length, map, slice_get, take, true, ℕ, ◌++◌, ◌+◌, ◌∷◌, ◌≡◌, ◌≤◌}

-- ---- states

pub one_more_state : (now : ℕ) (m : MemberState) (ids : ℕ) (list next : List StateOf) → next ≡ list ++ state_seen now m (ids + 1) ∷ [] → list ≡ states_in now m ids → next ≡ states_in now m (ids + 1)
one_more_state now m ids list next is before = let more = map-range_with_len_more (state_seen now m) 1 ids (ids + 1) (omega arith) in cc

-- ---- sessions

-- A session, if it is joined.
abbrev joined_in : MemberState → List SessionOf
joined_in m = cond m.joined (session_in m ∷ []) []

sessions_behind : (ms : List MemberState) (m : MemberState) → sessions_in (ms ++ m ∷ []) ≡ sessions_in ms ++ joined_in m
sessions_behind [] m = by m.joined
  where
    by : (b : Bool) → map session_in (cond b (m ∷ []) []) ≡ [] ++ cond b (session_in m ∷ []) []
    by true = refl
    by false = refl
sessions_behind (n ∷ ms) m = by n.joined (sessions_behind ms m)
  where
    by : (b : Bool) → sessions_in (ms ++ m ∷ []) ≡ sessions_in ms ++ joined_in m
        → map session_in (cond b (n ∷ filter (λ k. k.joined) (ms ++ m ∷ [])) (filter (λ k. k.joined) (ms ++ m ∷ [])))
        ≡ map session_in (cond b (n ∷ filter (λ k. k.joined) ms) (filter (λ k. k.joined) ms)) ++ joined_in m
    by true rest = ap (λ ss. session_in n ∷ ss) rest
    by false rest = rest

pub one_more_session : (ms : List MemberState) (k : ℕ) (m : MemberState) (list next : List SessionOf) → next ≡ list ++ cond m.joined (session_in m ∷ []) [] → list ≡ sessions_in (take k ms)
    → slice_get ms k ≡ Some m → next ≡ sessions_in (take (k + 1) ms)
one_more_session ms k m list next is before there =
    let more = ap sessions_in (taken_more ms k m there) ∙ sessions_behind (take k ms) m in cc

-- It is no longer than they are many.
pub no_longer : (k : ℕ) (b : Bool) (s : SessionOf) (list next : List SessionOf) → next ≡ list ++ cond b (s ∷ []) [] → length list ≤ k → length next ≤ k + 1
no_longer k true s list next is short = let long : length next ≡ length list + 1 = ap length is ∙ length-append list (s ∷ []) in omega (arith, long, short)
no_longer k false s list next is short = let long : length next ≡ length list + 0 = ap length is ∙ length-append list [] in omega (arith, long, short)

take_whole : {A : Type 0} (xs : List A) → take (length xs) xs ≡ xs
take_whole [] = refl
take_whole (x ∷ xs) = ap (λ ys. x ∷ ys) (take_whole xs)

pub all_sessions : (ms : List MemberState) (list : List SessionOf) → list ≡ sessions_in (take (length ms) ms) → list ≡ sessions_in ms
all_sessions ms list is = is ∙ ap sessions_in (take_whole ms)
