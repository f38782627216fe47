-- Runs of one id, and what bounds them.
use Rattle.sl_ids.specs.State.{Content, Free, IsNew, Live, State, SessionId, moment, shown}
use Rattle.sl_ids.specs.Steps.{Step}
use Rattle.sl_ids.specs.Terms.{Terms}
use Rattle.std.specs.Prelude.{List, None, Some, false, true, [], ◌+◌, ◌<◌, ◌∷◌, ◌≡◌, ◌≤◌}

-- What the watchdogs promise at each moment: whoever may still act has registered, or was renewed, less than `gone` ago. This is all
-- that the argument knows of watchdogs, and of what keeps a session from being over.
pub record IsBounded (r : Terms) (w : State) : Type 0 where
  -- while a claim may still land, its session is connected, or the claim is in flight
  pub pending : (s : SessionId) → (w.session s).pending ≡ true → w.now < (w.session s).registered + r.gone
  -- so is a verified session that is not over: connected, with a write in flight, or reset a short time ago while it was connected
  pub acting : (s : SessionId) → (w.session s).verified ≡ true → (w.session s).over ≡ false → w.now < (w.session s).renewed + r.gone

-- ---- the start

-- The session `holder` has joined with this record, and no other has begun.
pub record HasHolder (w : State) (holder : SessionId) (content : Content) : Type 0 where
  pub begun : (w.session holder).begun ≡ true
  pub decided : (w.session holder).decided ≡ false
  pub pending : (w.session holder).pending ≡ false
  pub landed : (w.session holder).landed ≡ false
  pub verified : (w.session holder).verified ≡ true
  pub joined : (w.session holder).joined ≡ true
  pub not_over : (w.session holder).over ≡ false
  pub base : (w.session holder).base ≡ 0
  pub claim : (w.session holder).claim ≡ 0
  pub generation : (w.session holder).generation ≡ content.generation
  pub some : 0 < content.generation
  pub name : content.host ≡ Some (w.session holder).name
  pub seq : content.seq ≤ (w.session holder).seq
  pub kind : content.kind ≡ Live
  pub renewed : (w.session holder).renewed ≤ moment w 0
  pub writer : (w.landing 0).writer ≡ Some holder
  pub others : (j : SessionId) → (j ≡ holder → ⊥) → IsNew (w.session j)

-- What the record at first may be: free and never held, or that of a session that has joined.
pub data StartsWith (w : State) (content : Content) : Type 0 where
  Starts_free : content.kind ≡ Free → content.generation ≡ 0 → (w.landing 0).writer ≡ None → ((j : SessionId) → IsNew (w.session j))
      → StartsWith w content
  Starts_held : (holder : SessionId) → HasHolder w holder content → StartsWith w content

-- The start of a run: one whole record stands in the sector.
pub record IsStart (w : State) : Type 0 where
  pub one : w.count ≡ 1
  pub before : moment w 0 ≤ w.now
  pub content : Content
  pub spelled : shown w 0 ≡ Some content
  pub starts : StartsWith w content

-- ---- runs

-- These states follow one another, and the last is v; the watchdogs keep their promise in each.
abbrev pub RunsTo : Terms → State → List State → State → Type 0
RunsTo r w [] v = w ≡ v
RunsTo r w (u ∷ us) v = Step r w u × IsBounded r u × RunsTo r u us v

-- The state is reached from a start.
abbrev pub Reached : Terms → State → Type 0
Reached r w = (start : State) × (us : List State) × IsStart start × IsBounded r start × RunsTo r start us w

-- The state v is w, or comes later.
abbrev pub Later : Terms → State → State → Type 0
Later r w v = (us : List State) × RunsTo r w us v

-- Between these two states of one moment nothing begins that a bound speaks of.
pub record OnlyEnds (w v : State) : Type 0 where
  pub now : v.now ≡ w.now
  pub pending : (s : SessionId) → (v.session s).pending ≡ true
      → ((w.session s).pending ≡ true) × ((v.session s).registered ≡ (w.session s).registered)
  pub acting : (s : SessionId) → (v.session s).verified ≡ true → (v.session s).over ≡ false
      → ((w.session s).verified ≡ true) × ((w.session s).over ≡ false) × ((v.session s).renewed ≡ (w.session s).renewed)

-- How runs are put together.
pub record RunsGoOn : Type 0 where
  pub reached : (r : Terms) (w v : State) → Reached r w → Later r w v → Reached r v
  pub step : (r : Terms) (w v : State) → Step r w v → IsBounded r v → Later r w v
  pub both : (r : Terms) (w u v : State) → Later r w u → Later r u v → Later r w v
  pub bounded : (r : Terms) (w : State) → Reached r w → IsBounded r w
  -- where the world makes several of these steps at once, the states in between need no bounds of their own
  pub between : (r : Terms) (w v : State) → OnlyEnds w v → IsBounded r w → IsBounded r v
