-- A new host stands for no step: each question to the empty trace has the answer kept.
use Rattle.sl_host_state.specs.KeptState.{Config, MemberState}
use Rattle.sl_host_state.specs.NewHost.{IsOfProgram, given_sessions, new_host, new_joining, new_member, sizes_in}
use Rattle.sl_host_state.specs.HostStands.{AskedStands, HostStands, JoinStands, Keeps, MemberStands, WatchKeeps, config_of}
use Rattle.sl_trace.specs.Sessions.{given_session, is_present}
use Rattle.sl_trace.specs.declared.session.Session.{Session}
use Rattle.sl_trace.specs.WatchdogConnections.{given_connection}
use Rattle.sl_trace.specs.Traces.{Setting}
use Rattle.sl_trace.specs.declared.input.Given.{Given}
use Rattle.sl_time.specs.Times.{TimingNumbers, fail}
use Rattle.sl_watch.proofs.ToldLaws.{watches_are_told}
use Rattle.sl_watch.specs.Summaries.{nothing_seen}
use Rattle.sl_watch.specs.ToldLooks.{blank_watch}
use Rattle.sl_words.proofs.CaseLaws.{none_some, some_value}
use Rattle.sl_words.specs.Words.{some_is}
use Rattle.std.proofs.lemmas.List.{length-replicate}
use Rattle.sl_words.specs.Orders.{in_order, is_text_before}
use Rattle.std.proofs.Common.{ap, arith, refl, subst, suc, sym, zero, ◌∙◌}
use Rattle.std.specs.List.{enumerate_from}
use Rattle.std.specs.Prelude.{List, None, Option, Some, false, filter, is_none, is_some, length, map, nat_lt, replicate, slice_get, slice_index_or, true, [], ℕ, ◌+◌, ◌-◌, ◌&&◌, ◌∷◌, ◌≡◌}

-- ---- its members

all_there : (n : ℕ) (gs : List Given) → filter (is_present []) (map given_session (enumerate_from n gs)) ≡ map given_session (enumerate_from n gs)
all_there n [] = refl
all_there n (g ∷ gs) = ap (λ ss. given_session (n, g) ∷ ss) (all_there (n + 1) gs)

whos : (c : Config) (ss : List Session) → ss ≡ map (λ m. m.who) (map (new_member c) ss)
whos c [] = refl
whos c (s ∷ ss) = ap (λ ts. s ∷ ts) (whos c ss)

how_many : (n : ℕ) (gs : List Given) → length (map given_session (enumerate_from n gs)) ≡ length gs
how_many n [] = refl
how_many n (g ∷ gs) = ap (λ k. suc k) (how_many (n + 1) gs)

names : (tm : TimingNumbers) (gs : List Given) → map (λ c. c.name) (map (given_connection tm) gs) ≡ map (λ g. g.lockspace) gs
names tm [] = refl
names tm (g ∷ gs) = ap (λ ns. g.lockspace ∷ ns) (names tm gs)

-- ---- what each keeps

abbrev joined_by : Option ℕ → Option ℕ
joined_by o = elim o [ None ↦ Some 0 | Some j ↦ None ]

joined_is : (o : Option ℕ) → (is_some (joined_by o) && true) ≡ is_none o
joined_is None = refl
joined_is (Some j) = refl

not_refused : (o : Option ℕ) → is_some (elim o as (λ p. Option ℕ) [ None ↦ None | Some j ↦ None ]) ≡ false
not_refused None = refl
not_refused (Some j) = refl

new_joining_stands : JoinStands new_joining []
new_joining_stands = record { watched = refl; since = refl; claim = refl; newest = refl }

-- Of an owner that nothing was asked of nothing is kept.
abbrev nobody : Option ℕ
nobody = None

none_asked : (n i : ℕ) → slice_index_or (replicate n nobody) i nobody ≡ nobody
none_asked zero i = refl
none_asked (suc n) zero = refl
none_asked (suc n) (suc i) = none_asked n i

pub new_asked : (st : Setting) → AskedStands st (replicate st.layout.hosts None) []
new_asked st =
    record {
      count = length-replicate st.layout.hosts None;
      each = λ now owner one most. ap (λ o. some_is (λ r. nat_lt now (r + fail st.timing)) o) (sym (none_asked st.layout.hosts (owner - 1)));
    }

pub new_watch : (st : Setting) → IsOfProgram st.layout → WatchKeeps st (blank_watch st.timing (sizes_in st.layout)) []
new_watch st is =
    record {
      timed = refl;
      sized = is;
      count = length-replicate st.layout.hosts nothing_seen;
      stands = watches_are_told.blank st.timing (sizes_in st.layout);
      beyond = λ id out. refl;
    }

new_member_stands : (st : Setting) (s : Session) → IsOfProgram st.layout → MemberStands st [] (new_member (config_of st) s)
new_member_stands st s is =
    record {
      joined = joined_is s.job;
      refused = not_refused s.job;
      known = refl;
      joining = λ still. new_joining_stands;
      renewing = refl;
      leaving = refl;
      asked = new_asked st;
      turn = tt;
      seen = new_watch st is;
      spots = refl;
      leases = λ k l there. absurd (none_some l there);
      valued = tt;
      values = λ k l there. absurd (none_some l there);
    }

members_stand : (st : Setting) (ss : List Session) (k : ℕ) (m : MemberState) → IsOfProgram st.layout → slice_get (map (new_member (config_of st)) ss) k ≡ Some m → MemberStands st [] m
members_stand st [] k m is there = absurd (none_some m there)
members_stand st (s ∷ ss) zero m is there = subst (λ m. MemberStands st [] m) (some_value (new_member (config_of st) s) m there) (new_member_stands st s is)
members_stand st (s ∷ ss) (suc k) m is there = members_stand st ss k m is there

-- ---- the whole

new_host_keeps : (st : Setting) → IsOfProgram st.layout → Keeps (new_host st) st []
new_host_keeps st is =
    record {
      config = refl;
      entries = refl;
      calls = refl;
      lines = (let n : ℕ = st.first.job in omega arith);
      replied = λ n above. refl;
      started = refl;
      born = how_many 0 st.given;
      numbered = refl;
      counted = refl;
      present = ap (in_order (λ a b. is_text_before a.lockspace b.lockspace)) (all_there 0 st.given) ∙ whos (config_of st) (given_sessions st);
      members = λ k m there. members_stand st (given_sessions st) k m is there;
      connected = names st.timing st.given;
      unanswered = refl;
      single = tt;
      owned = tt;
      jobs = refl;
      holdings = refl;
      children = refl;
      programs = refl;
    }

pub new_host_stands : (st : Setting) → IsOfProgram st.layout → HostStands (new_host st) st []
new_host_stands st is =
    record { past = (tt, tt); reading = refl; made = refl; keeps = new_host_keeps st is; quiet = λ k now there. omega arith }
