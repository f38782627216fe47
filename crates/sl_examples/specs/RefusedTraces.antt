-- Traces by whose letter two processes could hold one resource, or a reader get an old value, and the laws that refuse them. The
-- numbers: 1 calls, 2 delta sectors, 3 areas, 4 blocks, 5 leaders, 6 modes, 7 watchdog, 8 grants, 9 recovery, 10 values.
use Rattle.sl_area.specs.AreaRecords.{fresh_delta, no_request}
use Rattle.sl_examples.specs.HandmadeTraces.{block, broken_by, bytes_of, grant, leader, quiet_entry, reads, with_calls, with_grants, with_moves, with_replies, writes}
use Rattle.sl_examples.specs.WorkedSchedules.{two_machines}
use Rattle.sl_run.specs.Worlds.{Daemon}
use Rattle.sl_sector.specs.Bitmaps.{no_bits}
use Rattle.sl_sector.specs.declared.sector.DeltaState.TheVariants.{Live}
use Rattle.sl_sector.specs.declared.sector.Rec.TheVariants.{DeltaIs, RequestIs, ValueIs}
use Rattle.sl_trace.specs.declared.effects.Entry.{Entry}
use Rattle.sl_trace.specs.declared.effects.Grant.{Grant}
use Rattle.sl_trace.specs.declared.effects.JoinStep.TheVariants.{DecidingRead, WatchRead}
use Rattle.sl_trace.specs.declared.effects.LeaseStep.TheVariants.{FreeLeader, Phase1Write, Phase2Read, Phase2Write, ReadBeforeFree, SetMode}
use Rattle.sl_trace.specs.declared.effects.Mode.TheVariants.{Exclusive, Shared}
use Rattle.sl_trace.specs.declared.effects.Move.TheVariants.{Register, Renew, Unregister}
use Rattle.sl_trace.specs.declared.effects.Purpose.TheVariants.{RequestWrite, Joining, Lease, Renewal, Survey, ValueWrite}
use Rattle.sl_trace.specs.declared.effects.Work.TheVariants.{ForJob, Settling}
use Rattle.sl_trace.specs.declared.input.Answer.TheVariants.{Failed, Read, Written}
use Rattle.sl_trace.specs.declared.input.Input.TheVariants.{Answer as Told, Wake}
use Rattle.sl_trace.specs.declared.reply.Reply.TheVariants.{Generation}
use Rattle.std.specs.Prelude.{None, List, Some, codes, false, replicate, true, [], ℕ, ◌++◌, ◌∷◌, ◌≡◌}

abbrev pub none : List (List ℕ)
none = codes "sanlock 1" ∷ codes "time 100 600 100 0 300" ∷ codes "hosts 1" ∷ codes "ids 2" ∷ codes "disk /d 4" ∷ codes "lockspace ls /d 0"
    ∷ codes "resource ls r /d 1048576" ∷ codes "begin" ∷ codes "start 1 a" ∷ codes "command 1 add_lockspace -s ls:1:/d:0" ∷ []

abbrev pub acquire : List ℕ
acquire = codes "command 1 acquire -r ls:r:/d:1048576 -p 7"

-- a first block write stays in flight, and a second one is made: the late one would undo it
abbrev pub second_write : Daemon → List Entry
second_write d = with_calls (writes 3 (Lease Settling Phase1Write) 1049600 (block 1 false 1 3 0 0 0) ∷ []) (quiet_entry 100 Wake) ∷ []

-- a shared grant whose leader was freed before the mode was set as well: another could have passed in between
abbrev pub early_free : Daemon → List Entry
early_free d =
    with_calls (writes 6 (Lease (ForJob 1) FreeLeader) 1048576 (leader false 1 1 1 (codes "ls")) ∷ [])
    (quiet_entry 0 (Told 5 (Read (bytes_of d (block 1 false 1 1 1 1 1) ++ bytes_of d (block 2 false 0 0 0 0 0)))))
    ∷ with_calls (writes 7 (Lease (ForJob 1) SetMode) 1049600 (block 1 true 1 1 1 1 1) ∷ []) (quiet_entry 0 (Told 6 Written))
    ∷ with_calls (writes 8 (Lease (ForJob 1) FreeLeader) 1048576 (leader false 1 1 1 (codes "ls")) ∷ []) (quiet_entry 0 (Told 7 Written))
    ∷ with_grants (grant 7 Shared 1 ∷ []) (quiet_entry 0 (Told 8 Written)) ∷ []

-- the same with the free after the mode alone is lawful: the laws can be met
abbrev pub in_order_free : Daemon → List Entry
in_order_free d =
    with_calls (writes 6 (Lease (ForJob 1) SetMode) 1049600 (block 1 true 1 1 1 1 1) ∷ [])
    (quiet_entry 0 (Told 5 (Read (bytes_of d (block 1 false 1 1 1 1 1) ++ bytes_of d (block 2 false 0 0 0 0 0)))))
    ∷ with_calls (writes 7 (Lease (ForJob 1) FreeLeader) 1048576 (leader false 1 1 1 (codes "ls")) ∷ []) (quiet_entry 0 (Told 6 Written))
    ∷ with_grants (grant 7 Shared 1 ∷ []) (quiet_entry 0 (Told 7 Written)) ∷ []

-- by an old read of the leader an instance below the own block begins: the own vote would be forgotten
abbrev pub older_instance : Daemon → List Entry
older_instance d = with_calls (writes 13 (Lease Settling Phase1Write) 1049600 (block 1 false 1 1 0 0 0) ∷ []) (quiet_entry 0 (Told 12 Failed)) ∷ []

-- an instance that the session has freed begins again
abbrev pub freed_instance : Daemon → List Entry
freed_instance d = with_calls (writes 8 (Lease Settling Phase1Write) 1049600 (block 1 false 1 3 1 1 1) ∷ []) (quiet_entry 0 Wake) ∷ []

-- a torn block of another host is passed over: it may be a vote, or a shared holder's
abbrev pub past_torn : Daemon → List Entry
past_torn d =
    with_calls (writes 4 (Lease (ForJob 1) Phase2Write) 1049600 (block 1 false 1 1 1 1 1) ∷ [])
    (quiet_entry 0 (Told 3 (Read (bytes_of d (block 1 false 1 1 0 0 0) ++ replicate 512 0)))) ∷ []

-- a leader of another lockspace, in which id and generation name another session
abbrev pub other_lockspace : Daemon → List Entry
other_lockspace d =
    with_calls (writes 2 (Lease (ForJob 1) Phase1Write) 1049600 (block 1 false 1 1 0 0 0) ∷ [])
    (quiet_entry 0 (Told 1 (Read (bytes_of d (leader true 1 1 1 (codes "lb")) ++ bytes_of d (RequestIs no_request)
    ++ bytes_of d (block 1 false 1 1 1 1 1) ++ bytes_of d (block 2 false 0 0 0 0 0))))) ∷ []

-- a session that has claimed its id, and isn't joined, works on an area
abbrev pub before_joining : Daemon → List Entry
before_joining d = with_calls (reads 4 (Lease Settling ReadBeforeFree) 1048576 4 ∷ []) (quiet_entry 0 Wake) ∷ []

-- a renewal with an old seq: it would look like silence
abbrev pub same_renewal : Daemon → List Entry
same_renewal d =
    with_calls (writes 1 Renewal 0 (DeltaIs (record {
      state = Live;
      id = 1;
      generation = 1;
      seq = 1;
      stamp = 200;
      lockspace = codes "ls";
      host = Some (codes "a");
      bitmap = no_bits;
    })) ∷ [])
    (quiet_entry 200 Wake) ∷ []

-- with the next seq it is lawful
abbrev pub higher_renewal : Daemon → List Entry
higher_renewal d =
    with_calls (writes 1 Renewal 0 (DeltaIs (record {
      state = Live;
      id = 1;
      generation = 1;
      seq = 2;
      stamp = 200;
      lockspace = codes "ls";
      host = Some (codes "a");
      bitmap = no_bits;
    })) ∷ [])
    (quiet_entry 200 Wake) ∷ []

-- a write of the mode that changes the vote
abbrev pub mode_and_vote : Daemon → List Entry
mode_and_vote d = with_calls (writes 7 (Lease (ForJob 1) SetMode) 1049600 (block 1 true 1 3 0 0 0) ∷ []) (quiet_entry 0 (Told 6 Written)) ∷ []

-- an idle session's connection is removed: nothing would bound it any more
abbrev pub idle_removal : Daemon → List Entry
idle_removal d = with_moves (Unregister (codes "ls") ∷ []) (quiet_entry 0 Wake) ∷ []

-- a later expiry than fail after the renewal's submission
abbrev pub late_expiry : Daemon → List Entry
late_expiry d =
    with_calls (reads 2 Survey 0 2 ∷ []) (with_moves (Renew (codes "ls") 1090 ∷ []) (quiet_entry 290 (Told 1 Written))) ∷ []

-- the deciding read in an entry that doesn't register
abbrev pub unregistered_read : Daemon → List Entry
unregistered_read d =
    with_calls (reads 2 (Joining 1 DecidingRead) 0 1 ∷ []) (quiet_entry 0 (Told 1 (Read (bytes_of d (DeltaIs (fresh_delta (codes "ls") 1)))))) ∷ []

-- a call after the free
abbrev pub after_the_free : Daemon → List Entry
after_the_free d = with_calls (reads 2 Survey 0 2 ∷ []) (quiet_entry 0 Wake) ∷ []

-- a value written without an exclusive holding
abbrev pub value_unheld : Daemon → List Entry
value_unheld d = with_calls (writes 3 (ValueWrite 1) 2096640 (ValueIs (record { host = 1; lver = 1; seq = 1; bytes = 97 ∷ [] })) ∷ []) (quiet_entry 0 Wake) ∷ []

-- a joining makes its connection anew while it verifies: its claim could act longer than a watcher waits
abbrev pub registered_anew : Daemon → List Entry
registered_anew d = with_moves (Unregister (codes "ls") ∷ Register (codes "ls") 2501 ∷ []) (quiet_entry 1701 Wake) ∷ []

-- the read of phase 2 is submitted before its write is answered: a rival may not have seen the block
abbrev pub early_read : Daemon → List Entry
early_read d = with_calls (reads 5 (Lease (ForJob 1) Phase2Read) 1049600 2 ∷ []) (quiet_entry 0 Wake) ∷ []

-- a joining that is answered ok at its claim's answer: two could join with one generation
abbrev pub early_joining : Daemon → List Entry
early_joining d = with_replies (record { job = 1; reply = Generation 1 } ∷ []) (quiet_entry 0 (Told 3 Written)) ∷ []

-- a write in the place of a joining's read: a free in another's name
abbrev pub written_watch : Daemon → List Entry
written_watch d = with_calls (writes 2 (Joining 1 WatchRead) 0 (DeltaIs (fresh_delta (codes "ls") 1)) ∷ []) (quiet_entry 0 (Told 1 Failed)) ∷ []

-- a free of the leader that is no work on the lease: the lease would not know that it freed
abbrev pub hidden_free : Daemon → List Entry
hidden_free d =
    with_calls (writes 6 (RequestWrite 1 None) 1048576 (leader false 1 1 1 (codes "ls")) ∷ [])
    (quiet_entry 0 (Told 5 (Read (bytes_of d (block 1 false 1 1 1 1 1) ++ bytes_of d (block 2 false 0 0 0 0 0))))) ∷ []

-- a grant at an offset that is no area's: the calls of two areas would count as one lease's
abbrev pub shifted_grant : Daemon → List Entry
shifted_grant d =
    let g : Grant = grant 7 Exclusive 1 in with_grants (record g { offset = 1049088 } ∷ []) (quiet_entry 0 (Told 6 Written)) ∷ []

-- Each is refused by just these laws; a renewal that rises by one is not.
pub record TracesAreRefused : Type 0 where
  pub overlapping_writes : broken_by (two_machines ++ acquire ∷ codes "do 1 1" ∷ codes "pass 100" ∷ codes "wake 1" ∷ []) 1 second_write ≡ ((3 ∷ []) ∷ [])
  pub freed_before_mode : broken_by (two_machines ++ codes "command 1 acquire -r ls:r:/d:1048576:SH -p 7" ∷ codes "do 1 1" ∷ codes "do 1 2" ∷ codes "do 1 3" ∷ codes "do 1 4" ∷ []) 1 early_free ≡ ([] ∷ [] ∷ [] ∷ (6 ∷ []) ∷ [])
  pub freed_after_mode : broken_by (two_machines ++ codes "command 1 acquire -r ls:r:/d:1048576:SH -p 7" ∷ codes "do 1 1" ∷ codes "do 1 2" ∷ codes "do 1 3" ∷ codes "do 1 4" ∷ []) 1 in_order_free ≡ ([] ∷ [] ∷ [] ∷ [])
  pub below_own_block : broken_by (two_machines ++ acquire ∷ codes "do 1 1" ∷ codes "do 1 2" ∷ codes "do 1 3" ∷ codes "do 1 4" ∷ codes "do 1 5" ∷ codes "do 1 6" ∷ codes "command 1 release -r ls:r:/d:1048576 -p 7" ∷ codes "do 1 7" ∷ acquire ∷ codes "do 1 8" ∷ codes "do 1 9" ∷ codes "do 1 10" ∷ codes "do 1 11" ∷ []) 1 older_instance ≡ ((4 ∷ []) ∷ [])
  pub freed_again : broken_by (two_machines ++ acquire ∷ codes "do 1 1" ∷ codes "do 1 2" ∷ codes "do 1 3" ∷ codes "do 1 4" ∷ codes "do 1 5" ∷ codes "do 1 6" ∷ codes "command 1 release -r ls:r:/d:1048576 -p 7" ∷ codes "do 1 7" ∷ []) 1 freed_instance ≡ ((4 ∷ []) ∷ [])
  pub torn_block : broken_by (two_machines ++ acquire ∷ codes "do 1 1" ∷ codes "do 1 2" ∷ []) 1 past_torn ≡ ((4 ∷ []) ∷ [])
  pub of_another : broken_by (two_machines ++ acquire ∷ []) 1 other_lockspace ≡ ((3 ∷ 4 ∷ []) ∷ [])
  pub not_joined : broken_by (none ++ codes "do 1 1" ∷ codes "do 1 2" ∷ codes "do 1 3" ∷ []) 1 before_joining ≡ ((3 ∷ []) ∷ [])
  pub equal_renewal : broken_by (two_machines ++ codes "pass 200" ∷ []) 1 same_renewal ≡ ((2 ∷ []) ∷ [])
  pub rising_renewal : broken_by (two_machines ++ codes "pass 200" ∷ []) 1 higher_renewal ≡ ([] ∷ [])
  pub vote_undone : broken_by (two_machines ++ codes "command 1 acquire -r ls:r:/d:1048576:SH -p 7" ∷ codes "do 1 1" ∷ codes "do 1 2" ∷ codes "do 1 3" ∷ codes "do 1 4" ∷ codes "do 1 5" ∷ []) 1 mode_and_vote ≡ ((4 ∷ []) ∷ [])
  pub connection_removed : broken_by two_machines 1 idle_removal ≡ ((9 ∷ []) ∷ [])
  pub expiry_too_late : broken_by (two_machines ++ codes "pass 200" ∷ codes "wake 1" ∷ codes "pass 90" ∷ []) 1 late_expiry ≡ ((7 ∷ []) ∷ [])
  pub deciding_unregistered : broken_by none 1 unregistered_read ≡ ((2 ∷ 7 ∷ []) ∷ [])
  pub call_after_free : broken_by (two_machines ++ codes "command 1 rem_lockspace -s ls:1:/d:0" ∷ []) 1 after_the_free ≡ ((1 ∷ 2 ∷ []) ∷ [])
  pub value_without_holding : broken_by (two_machines ++ acquire ∷ codes "do 1 1" ∷ codes "answer 1 2 failed" ∷ []) 1 value_unheld ≡ ((10 ∷ []) ∷ [])
  pub connection_anew : broken_by (none ++ codes "do 1 1" ∷ codes "do 1 2" ∷ codes "do 1 3" ∷ codes "pass 600" ∷ codes "test 1" ∷ codes "pass 600" ∷ codes "test 1" ∷ codes "pass 301" ∷ codes "wake 1" ∷ codes "test 1" ∷ codes "pass 200" ∷ []) 1 registered_anew ≡ ((7 ∷ []) ∷ [])
  pub read_before_answer : broken_by (two_machines ++ acquire ∷ codes "do 1 1" ∷ codes "do 1 2" ∷ codes "do 1 3" ∷ []) 1 early_read ≡ ((3 ∷ 4 ∷ []) ∷ [])
  pub joined_by_claim : broken_by (none ++ codes "do 1 1" ∷ codes "do 1 2" ∷ []) 1 early_joining ≡ ((2 ∷ []) ∷ [])
  pub watch_that_writes : broken_by none 1 written_watch ≡ ((2 ∷ []) ∷ [])
  pub free_by_asking : broken_by (two_machines ++ acquire ∷ codes "do 1 1" ∷ codes "do 1 2" ∷ codes "do 1 3" ∷ codes "do 1 4" ∷ []) 1 hidden_free ≡ ((5 ∷ []) ∷ [])
  pub grant_off_its_area : broken_by (two_machines ++ acquire ∷ codes "do 1 1" ∷ codes "do 1 2" ∷ codes "do 1 3" ∷ codes "do 1 4" ∷ codes "do 1 5" ∷ []) 1 shifted_grant ≡ ((8 ∷ []) ∷ [])
