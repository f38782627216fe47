-- Histories of two hosts, written out row by row.
use Rattle.sl_ballot_law.specs.History.{Block, History, Leader, Owner}
use Rattle.sl_words.specs.Tables.{Row, entry_of, has_row}
use Rattle.sl_words.specs.Words.{some_is}
use Rattle.std.specs.Prelude.{Bool, List, None, Option, Some, false, if◌then◌else◌, not, true, ℕ, ◌%◌, ◌&&◌, ◌==◌, ◌||◌}

-- ---- sessions

-- The first sessions of host 1 and of host 2.
abbrev pub one : Owner
one = record { id = 1; generation = 1 }

abbrev pub two : Owner
two = record { id = 2; generation = 1 }

-- When sessions join, and which are over, and known to be.
pub record Lives : Type 0 where
  pub joined : Owner → Option ℕ
  pub over : Owner → ℕ → Bool
  pub evidence : Owner → Owner → ℕ → Bool

-- The first sessions join at step 1 and at step 2.
abbrev pub joins : Owner → Option ℕ
joins s = if s.generation == 1 && (s.id == 1 || s.id == 2) then Some s.id else None

-- .. and are never over.
abbrev pub lasting : Lives
lasting = record { joined = joins; over = λ s t. false; evidence = λ o s t. false }

-- ---- blocks

-- A block whose session holds nothing shared: lver, mbal, bal, inp.
abbrev pub plain : ℕ → ℕ → ℕ → Owner → Block
plain lver mbal bal inp = record { lver = lver; mbal = mbal; bal = bal; inp = inp; shared = false; mode_gen = 0 }

-- A mark of a first session.
abbrev pub marked : ℕ → ℕ → ℕ → Owner → Block
marked lver mbal bal inp = record { lver = lver; mbal = mbal; bal = bal; inp = inp; shared = true; mode_gen = 1 }

-- ---- rows

-- A block write: by whom, the block, the step of its own block, and the step of the answer ok.
pub record Write : Type 0 where
  pub writer : Owner
  pub block : Block
  pub base : ℕ
  pub ok : Option ℕ

-- A read: by whom, the step of the answer, the steps of the blocks of host 1 and of host 2, and the host whose block is torn.
pub record Read : Type 0 where
  pub reader : Owner
  pub answer : ℕ
  pub first : ℕ
  pub second : ℕ
  pub torn : Option ℕ

-- At this step: a write that was answered ok at the last step given, and one that was not.
abbrev pub write : ℕ → Owner → Block → ℕ → ℕ → Row Write
write step writer block base ok = record { step = step; entry = record { writer = writer; block = block; base = base; ok = Some ok } }

abbrev pub lost_write : ℕ → Owner → Block → ℕ → Row Write
lost_write step writer block base = record { step = step; entry = record { writer = writer; block = block; base = base; ok = None } }

-- At this step: a read that was answered at the second step, with the blocks of these steps; and one in which a host's block is torn.
abbrev pub read : ℕ → Owner → ℕ → ℕ → ℕ → Row Read
read step reader answer first second =
    record { step = step; entry = record { reader = reader; answer = answer; first = first; second = second; torn = None } }

abbrev pub torn_read : ℕ → Owner → ℕ → ℕ → ℕ → ℕ → Row Read
torn_read step reader answer first second torn =
    record { step = step; entry = record { reader = reader; answer = answer; first = first; second = second; torn = Some torn } }

-- At this step: a leader as held, and one as free.
abbrev pub take : ℕ → ℕ → Owner → Row Leader
take step lver owner = record { step = step; entry = record { lver = lver; owner = owner; held = true } }

abbrev pub give_up : ℕ → ℕ → Owner → Row Leader
give_up step lver owner = record { step = step; entry = record { lver = lver; owner = owner; held = false } }

-- ---- the history

abbrev pub no_write : Write
no_write = record { writer = one; block = plain 0 0 0 one; base = 0; ok = None }

abbrev pub no_read : Read
no_read = record { reader = one; answer = 0; first = 0; second = 0; torn = None }

abbrev pub no_leader : Leader
no_leader = record { lver = 0; owner = one; held = false }

abbrev pub of_host : ℕ → ℕ → ℕ → ℕ
of_host k x y = if k == 1 then x else (if k == 2 then y else 0)

-- The history of these rows; host 1 has the odd numbers, host 2 the even ones.
abbrev pub made : Lives → List (Row Write) → List (Row Read) → List (Row Leader) → History
made lives ws rs ls = record {
  writes = has_row ws;
  writer = λ e. (entry_of no_write ws e).writer;
  block = λ e. (entry_of no_write ws e).block;
  base = λ e. (entry_of no_write ws e).base;
  ok = λ e. (entry_of no_write ws e).ok;
  reads = has_row rs;
  reader = λ r. (entry_of no_read rs r).reader;
  answer = λ r. (entry_of no_read rs r).answer;
  shows = λ r k. not (some_is (λ t. t == k) (entry_of no_read rs r).torn);
  shown = λ r k. of_host k (entry_of no_read rs r).first (entry_of no_read rs r).second;
  leads = has_row ls;
  leader = entry_of no_leader ls;
  joined = lives.joined;
  over = lives.over;
  evidence = lives.evidence;
  host_of = λ m. if m % 2 == 0 then 2 else 1;
}
