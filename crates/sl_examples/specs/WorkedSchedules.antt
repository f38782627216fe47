-- Worked schedules with their reports. The expected lines were worked out by hand.
use Rattle.std.specs.Prelude.{Bool, List, bytes_eq, codes, false, filter, map, not, true, [], ℕ, ◌&&◌, ◌++◌, ◌∷◌}

-- A schedule and its report, line by line.
pub record Row : Type 0 where
  pub name : List ℕ
  pub source : List (List ℕ)
  pub report : List (List ℕ)

-- Whether two lists of lines are one.
abbrev pub same_lines : List (List ℕ) → List (List ℕ) → Bool
same_lines [] [] = true
same_lines [] (l ∷ ls) = false
same_lines (l ∷ ls) [] = false
same_lines (l ∷ ls) (k ∷ ks) = bytes_eq l k && same_lines ls ks

-- The names of the rows that fail a test.
abbrev pub failing : (Row → Bool) → List Row → List (List ℕ)
failing p rows = map (λ r. r.name) (filter (λ r. not (p r)) rows)

-- One machine with a session, two ids, one disk, one resource.
abbrev pub one_machine : List (List ℕ)
one_machine =
    codes "sanlock 1" ∷ codes "time 100 600 100 0 300" ∷ codes "hosts 1" ∷ codes "ids 2" ∷ codes "disk /d 4" ∷ codes "lockspace ls /d 0" ∷
    codes "resource ls r /d 1048576" ∷ codes "session 1 ls 1 a" ∷ codes "begin" ∷ []

-- Two machines, each with a session.
abbrev pub two_machines : List (List ℕ)
two_machines =
    codes "sanlock 1" ∷ codes "time 100 600 100 0 300" ∷ codes "hosts 2" ∷ codes "ids 2" ∷ codes "disk /d 4" ∷ codes "lockspace ls /d 0" ∷
    codes "resource ls r /d 1048576" ∷ codes "session 1 ls 1 a" ∷ codes "session 2 ls 2 b" ∷ codes "begin" ∷ []

-- The same, in areas with pairs.
abbrev pub two_machines_with_pairs : List (List ℕ)
two_machines_with_pairs =
    codes "sanlock 2" ∷ codes "time 100 600 100 0 300" ∷ codes "hosts 2" ∷ codes "ids 2" ∷ codes "disk /d 4" ∷ codes "lockspace ls /d 0" ∷
    codes "resource ls r /d 1048576" ∷ codes "session 1 ls 1 a" ∷ codes "session 2 ls 2 b" ∷ codes "begin" ∷ []

-- An exclusive lease is acquired and given up: six calls, a grant, a free.
abbrev pub acquire_and_release : Row
acquire_and_release =
    record {
      name = codes "acquire and release";
      source =
          one_machine ++ (
          codes "command 1 acquire -r ls:r:/d:1048576 -p 7" ∷ codes "sample 1 1 4" ∷ codes "answer 1 1 ok" ∷ codes "land 1 2" ∷
          codes "answer 1 2 ok" ∷ codes "sample 1 3 2" ∷ codes "answer 1 3 ok" ∷ codes "land 1 4" ∷ codes "answer 1 4 ok" ∷ codes "sample 1 5 2" ∷
          codes "answer 1 5 ok" ∷ codes "land 1 6" ∷ codes "answer 1 6 ok" ∷ codes "command 1 release -r ls:r:/d:1048576 -p 7" ∷ codes "land 1 7" ∷
          codes "answer 1 7 ok" ∷ []
          );
      report =
          codes "1 call 1 read /d 1048576 4" ∷ codes "1 call 2 write /d 1049600 block 1 lver 1 mbal 1 bal 0 inp 0 0 mode 0 0" ∷
          codes "1 call 3 read /d 1049600 2" ∷ codes "1 call 4 write /d 1049600 block 1 lver 1 mbal 1 bal 1 inp 1 1 mode 0 0" ∷
          codes "1 call 5 read /d 1049600 2" ∷ codes "1 call 6 write /d 1048576 leader lver 1 owner 1 gen 1 held" ∷ codes "1 grant 7 ls:r ex 1" ∷
          codes "1 reply 1 ok 1" ∷ codes "1 end 7 ls:r" ∷ codes "1 call 7 write /d 1048576 leader lver 1 owner 1 gen 1 free" ∷ codes "1 reply 2 ok" ∷
          codes "end events 16 calls 7 grants 1 refusals 0 conflicts 0" ∷ [];
    }

-- The write of the leader fails though it landed: the win is settled by a free on a later wake, and another acquires.
abbrev pub settled_win : Row
settled_win =
    record {
      name = codes "settled win";
      source =
          two_machines ++ (
          codes "command 1 acquire -r ls:r:/d:1048576 -p 7" ∷ codes "do 1 1" ∷ codes "do 1 2" ∷ codes "do 1 3" ∷ codes "do 1 4" ∷ codes "do 1 5" ∷
          codes "land 1 6" ∷ codes "answer 1 6 failed" ∷ codes "wake 1" ∷ codes "do 1 7" ∷ codes "do 1 8" ∷
          codes "command 2 acquire -r ls:r:/d:1048576 -p 9" ∷ codes "do 2 1" ∷ []
          );
      report =
          codes "1 call 1 read /d 1048576 4" ∷ codes "1 call 2 write /d 1049600 block 1 lver 1 mbal 1 bal 0 inp 0 0 mode 0 0" ∷
          codes "1 call 3 read /d 1049600 2" ∷ codes "1 call 4 write /d 1049600 block 1 lver 1 mbal 1 bal 1 inp 1 1 mode 0 0" ∷
          codes "1 call 5 read /d 1049600 2" ∷ codes "1 call 6 write /d 1048576 leader lver 1 owner 1 gen 1 held" ∷ codes "1 reply 1 IoFault 6" ∷
          codes "1 call 7 read /d 1048576 4" ∷ codes "1 call 8 write /d 1048576 leader lver 1 owner 1 gen 1 free" ∷
          codes "2 call 1 read /d 1048576 4" ∷ codes "2 call 2 write /d 1050112 block 2 lver 2 mbal 2 bal 0 inp 0 0 mode 0 0" ∷
          codes "end events 13 calls 10 grants 0 refusals 1 conflicts 0" ∷ [];
    }

-- Two ballots of one instance: the one with the lesser number is refused.
abbrev pub rival : Row
rival =
    record {
      name = codes "rival";
      source =
          two_machines ++ (
          codes "command 1 acquire -r ls:r:/d:1048576 -p 7" ∷ codes "command 2 acquire -r ls:r:/d:1048576 -p 9" ∷ codes "sample 1 1 4" ∷
          codes "sample 2 1 4" ∷ codes "answer 1 1 ok" ∷ codes "answer 2 1 ok" ∷ codes "land 1 2" ∷ codes "land 2 2" ∷ codes "answer 1 2 ok" ∷
          codes "sample 1 3 2" ∷ codes "answer 1 3 ok" ∷ []
          );
      report =
          codes "1 call 1 read /d 1048576 4" ∷ codes "2 call 1 read /d 1048576 4" ∷
          codes "1 call 2 write /d 1049600 block 1 lver 1 mbal 1 bal 0 inp 0 0 mode 0 0" ∷
          codes "2 call 2 write /d 1050112 block 2 lver 1 mbal 2 bal 0 inp 0 0 mode 0 0" ∷ codes "1 call 3 read /d 1049600 2" ∷
          codes "1 reply 1 Rival 2 2" ∷ codes "end events 11 calls 5 grants 0 refusals 1 conflicts 0" ∷ [];
    }

-- A host is reset in phase 2 and its block is torn: nobody passes over it.
abbrev pub torn_phase2 : Row
torn_phase2 =
    record {
      name = codes "torn phase2";
      source =
          two_machines ++ (
          codes "command 1 acquire -r ls:r:/d:1048576 -p 7" ∷ codes "do 1 1" ∷ codes "do 1 2" ∷ codes "do 1 3" ∷ codes "reset 1" ∷
          codes "tear 1 4 480" ∷ codes "command 2 acquire -r ls:r:/d:1048576 -p 9" ∷ codes "do 2 1" ∷ []
          );
      report =
          codes "1 call 1 read /d 1048576 4" ∷ codes "1 call 2 write /d 1049600 block 1 lver 1 mbal 1 bal 0 inp 0 0 mode 0 0" ∷
          codes "1 call 3 read /d 1049600 2" ∷ codes "1 call 4 write /d 1049600 block 1 lver 1 mbal 1 bal 1 inp 1 1 mode 0 0" ∷
          codes "2 call 1 read /d 1048576 4" ∷ codes "2 reply 1 TornBlock 1" ∷ codes "end events 8 calls 5 grants 0 refusals 1 conflicts 0" ∷ [];
    }

-- A block of a pair is torn: what was read is read once more, and the block before it stands.
abbrev pub torn_with_pairs : Row
torn_with_pairs =
    record {
      name = codes "torn with pairs";
      source =
          two_machines_with_pairs ++ (
          codes "command 1 acquire -r ls:r:/d:1048576 -p 7" ∷ codes "do 1 1" ∷ codes "do 1 2" ∷ codes "do 1 3" ∷ codes "reset 1" ∷
          codes "tear 1 4 480" ∷ codes "command 2 acquire -r ls:r:/d:1048576 -p 9" ∷ codes "do 2 1" ∷ codes "do 2 2" ∷ codes "do 2 3" ∷
          codes "do 2 4" ∷ codes "do 2 5" ∷ codes "do 2 6" ∷ codes "do 2 7" ∷ codes "do 2 8" ∷ codes "do 2 9" ∷ []
          );
      report =
          codes "1 call 1 read /d 1048576 6" ∷ codes "1 call 2 write /d 1049600 block 1 turn 3 lver 1 mbal 1 bal 0 inp 0 0 mode 0 0" ∷
          codes "1 call 3 read /d 1049600 4" ∷ codes "1 call 4 write /d 1050112 block 1 turn 4 lver 1 mbal 1 bal 1 inp 1 1 mode 0 0" ∷
          codes "2 call 1 read /d 1048576 6" ∷ codes "2 call 2 read /d 1048576 6" ∷
          codes "2 call 3 write /d 1050624 block 2 turn 3 lver 1 mbal 2 bal 0 inp 0 0 mode 0 0" ∷ codes "2 call 4 read /d 1049600 4" ∷
          codes "2 call 5 read /d 1049600 4" ∷ codes "2 call 6 write /d 1051136 block 2 turn 4 lver 1 mbal 2 bal 2 inp 2 1 mode 0 0" ∷
          codes "2 call 7 read /d 1049600 4" ∷ codes "2 call 8 read /d 1049600 4" ∷
          codes "2 call 9 write /d 1048576 leader lver 1 owner 2 gen 1 held" ∷ codes "2 grant 9 ls:r ex 1" ∷ codes "2 reply 1 ok 1" ∷
          codes "end events 16 calls 13 grants 1 refusals 0 conflicts 0" ∷ [];
    }

-- Both sectors of a pair are torn when a second read samples them, one after the other: the read gives no block of the host.
abbrev pub torn_twice : Row
torn_twice =
    record {
      name = codes "torn twice";
      source =
          two_machines_with_pairs ++ (
          codes "command 1 acquire -r ls:r:/d:1048576 -p 7" ∷ codes "do 1 1" ∷ codes "do 1 2" ∷ codes "do 1 3" ∷ codes "tear 1 4 100" ∷
          codes "answer 1 4 failed" ∷ codes "command 2 acquire -r ls:r:/d:1048576 -p 9" ∷ codes "do 2 1" ∷ codes "wake 1" ∷ codes "do 1 5" ∷
          codes "do 1 6" ∷ codes "do 1 7" ∷ codes "do 1 8" ∷ codes "tear 1 9 100" ∷ codes "sample 2 2 3" ∷ codes "answer 1 9 failed" ∷
          codes "wake 1" ∷ codes "do 1 10" ∷ codes "do 1 11" ∷ codes "do 1 12" ∷ codes "tear 1 13 100" ∷ codes "sample 2 2 3" ∷
          codes "answer 2 2 ok" ∷ []
          );
      report =
          codes "1 call 1 read /d 1048576 6" ∷ codes "1 call 2 write /d 1049600 block 1 turn 3 lver 1 mbal 1 bal 0 inp 0 0 mode 0 0" ∷
          codes "1 call 3 read /d 1049600 4" ∷ codes "1 call 4 write /d 1050112 block 1 turn 4 lver 1 mbal 1 bal 1 inp 1 1 mode 0 0" ∷
          codes "1 reply 1 IoFault 4" ∷ codes "2 call 1 read /d 1048576 6" ∷ codes "2 call 2 read /d 1048576 6" ∷
          codes "1 call 5 read /d 1049600 4" ∷ codes "1 call 6 read /d 1049600 4" ∷
          codes "1 call 7 write /d 1050112 block 1 turn 4 lver 1 mbal 3 bal 1 inp 1 1 mode 0 0" ∷ codes "1 call 8 read /d 1049600 4" ∷
          codes "1 call 9 write /d 1049600 block 1 turn 5 lver 1 mbal 3 bal 3 inp 1 1 mode 0 0" ∷ codes "1 call 10 read /d 1049600 4" ∷
          codes "1 call 11 write /d 1049600 block 1 turn 5 lver 1 mbal 5 bal 3 inp 1 1 mode 0 0" ∷ codes "1 call 12 read /d 1049600 4" ∷
          codes "1 call 13 write /d 1050112 block 1 turn 6 lver 1 mbal 5 bal 5 inp 1 1 mode 0 0" ∷ codes "2 reply 1 TornBlock 1" ∷
          codes "end events 23 calls 15 grants 0 refusals 2 conflicts 0" ∷ [];
    }

-- Two claims of one free id: the later writer verifies, the other has lost the id.
abbrev pub two_claims : Row
two_claims =
    record {
      name = codes "two claims";
      source =
          (
          codes "sanlock 1" ∷ codes "time 100 600 100 0 300" ∷ codes "hosts 2" ∷ codes "ids 2" ∷ codes "disk /d 4" ∷ codes "lockspace ls /d 0" ∷
          codes "resource ls r /d 1048576" ∷ codes "begin" ∷ codes "start 1 a" ∷ codes "start 2 b" ∷ codes "command 1 add_lockspace -s ls:1:/d:0" ∷
          codes "command 2 add_lockspace -s ls:1:/d:0" ∷ codes "do 1 1" ∷ codes "do 2 1" ∷ codes "do 1 2" ∷ codes "do 2 2" ∷ codes "do 1 3" ∷
          codes "do 2 3" ∷ codes "pass 600" ∷ codes "test 1" ∷ codes "test 2" ∷ codes "pass 600" ∷ codes "test 1" ∷ codes "test 2" ∷
          codes "pass 301" ∷ codes "wake 1" ∷ codes "wake 2" ∷ codes "do 1 4" ∷ codes "do 2 4" ∷ codes "do 2 5" ∷ []
          );
      report =
          codes "1 call 1 read /d 0 1" ∷ codes "2 call 1 read /d 0 1" ∷ codes "1 wdmd register ls 800" ∷ codes "1 call 2 read /d 0 1" ∷
          codes "2 wdmd register ls 800" ∷ codes "2 call 2 read /d 0 1" ∷ codes "1 call 3 write /d 0 delta 1 gen 1 claim a seq 1 stamp 0" ∷
          codes "2 call 3 write /d 0 delta 1 gen 1 claim b seq 1 stamp 0" ∷ codes "1 wdmd unregister ls" ∷ codes "2 wdmd unregister ls" ∷
          codes "1 test ok" ∷ codes "2 test ok" ∷ codes "1 test ok" ∷ codes "2 test ok" ∷ codes "1 wdmd register ls 2301" ∷
          codes "1 call 4 read /d 0 1" ∷ codes "2 wdmd register ls 2301" ∷ codes "2 call 4 read /d 0 1" ∷ codes "1 wdmd unregister ls" ∷
          codes "1 reply 1 IdLost 1 a 1 b" ∷ codes "2 call 5 write /d 0 delta 1 gen 1 live b seq 2 stamp 1501" ∷ codes "2 wdmd renew ls 2301" ∷
          codes "2 reply 1 ok 1" ∷ codes "2 call 6 read /d 0 2" ∷ codes "end events 22 calls 10 grants 0 refusals 1 conflicts 0" ∷ [];
    }

-- A read's answer comes when its session is gone and the next one has its lockspace: that one's connection stands.
abbrev pub answer_after_its_session : Row
answer_after_its_session =
    record {
      name = codes "answer after its session";
      source =
          codes "sanlock 1" ∷ codes "time 100 6000 100 0 300" ∷ codes "hosts 1" ∷ codes "ids 2" ∷ codes "disk /d 4" ∷
          codes "lockspace ls /d 0" ∷ codes "resource ls r /d 1048576" ∷ codes "begin" ∷ codes "start 1 a" ∷
          codes "command 1 add_lockspace -s ls:1:/d:0" ∷ codes "pass 100" ∷ codes "wake 1" ∷ codes "command 1 add_lockspace -s ls:1:/d:0" ∷
          codes "do 1 2" ∷ codes "do 1 3" ∷ codes "answer 1 1 failed" ∷ codes "pass 800" ∷ codes "test 1" ∷ [];
      report =
          codes "1 call 1 read /d 0 1" ∷ codes "1 reply 1 IoTimeout 1 0 100" ∷ codes "1 call 2 read /d 0 1" ∷
          codes "1 wdmd register ls 900" ∷ codes "1 call 3 read /d 0 1" ∷
          codes "1 call 4 write /d 0 delta 1 gen 1 claim a seq 1 stamp 100" ∷ codes "1 test failed" ∷
          codes "end events 10 calls 4 grants 0 refusals 1 conflicts 0" ∷ [];
    }

-- An owner is reset; another watches its silence and takes its resource over under the next instance.
abbrev pub owner_reset_then_taken_over : Row
owner_reset_then_taken_over =
    record {
      name = codes "owner reset then taken over";
      source =
          two_machines ++ (
          codes "command 2 acquire -r ls:r:/d:1048576 -p 9" ∷ codes "do 2 1" ∷ codes "do 2 2" ∷ codes "do 2 3" ∷ codes "do 2 4" ∷ codes "do 2 5" ∷
          codes "do 2 6" ∷ codes "reset 2" ∷ codes "pass 200" ∷ codes "test 1" ∷ codes "wake 1" ∷ codes "do 1 1" ∷ codes "do 1 2" ∷
          codes "pass 600" ∷ codes "test 1" ∷ codes "wake 1" ∷ codes "do 1 3" ∷ codes "do 1 4" ∷
          codes "command 1 acquire -r ls:r:/d:1048576 -p 7" ∷ codes "do 1 5" ∷ codes "pass 600" ∷ codes "test 1" ∷ codes "wake 1" ∷
          codes "do 1 6" ∷ codes "do 1 7" ∷ codes "pass 301" ∷ codes "wake 1" ∷ codes "do 1 8" ∷ codes "do 1 9" ∷
          codes "command 1 acquire -r ls:r:/d:1048576 -p 7" ∷ codes "do 1 10" ∷ codes "do 1 11" ∷ codes "do 1 12" ∷ codes "do 1 13" ∷
          codes "do 1 14" ∷ codes "do 1 15" ∷ []
          );
      report =
          codes "2 call 1 read /d 1048576 4" ∷ codes "2 call 2 write /d 1050112 block 2 lver 1 mbal 2 bal 0 inp 0 0 mode 0 0" ∷
          codes "2 call 3 read /d 1049600 2" ∷ codes "2 call 4 write /d 1050112 block 2 lver 1 mbal 2 bal 2 inp 2 1 mode 0 0" ∷
          codes "2 call 5 read /d 1049600 2" ∷ codes "2 call 6 write /d 1048576 leader lver 1 owner 2 gen 1 held" ∷ codes "2 grant 9 ls:r ex 1" ∷
          codes "2 reply 1 ok 1" ∷ codes "2 end 9 ls:r" ∷ codes "1 test ok" ∷ codes "1 call 1 write /d 0 delta 1 gen 1 live a seq 2 stamp 200" ∷
          codes "1 wdmd renew ls 1000" ∷ codes "1 call 2 read /d 0 2" ∷ codes "1 test ok" ∷
          codes "1 call 3 write /d 0 delta 1 gen 1 live a seq 3 stamp 800" ∷ codes "1 wdmd renew ls 1600" ∷ codes "1 call 4 read /d 0 2" ∷
          codes "1 call 5 read /d 1048576 4" ∷ codes "1 reply 1 Held 1 2 1" ∷ codes "1 test ok" ∷
          codes "1 call 6 write /d 0 delta 1 gen 1 live a seq 4 stamp 1400" ∷ codes "1 wdmd renew ls 2200" ∷ codes "1 call 7 read /d 0 2" ∷
          codes "1 call 8 write /d 0 delta 1 gen 1 live a seq 5 stamp 1701" ∷ codes "1 wdmd renew ls 2501" ∷ codes "1 call 9 read /d 0 2" ∷
          codes "1 call 10 read /d 1048576 4" ∷ codes "1 call 11 write /d 1049600 block 1 lver 2 mbal 1 bal 0 inp 0 0 mode 0 0" ∷
          codes "1 call 12 read /d 1049600 2" ∷ codes "1 call 13 write /d 1049600 block 1 lver 2 mbal 1 bal 1 inp 1 1 mode 0 0" ∷
          codes "1 call 14 read /d 1049600 2" ∷ codes "1 call 15 write /d 1048576 leader lver 2 owner 1 gen 1 held" ∷ codes "1 grant 7 ls:r ex 2" ∷
          codes "1 reply 2 ok 2" ∷ codes "end events 36 calls 21 grants 2 refusals 1 conflicts 0" ∷ [];
    }

-- A daemon ends with a holder left: its connection runs out, and the device would reset the machine.
abbrev pub crash_with_holder : Row
crash_with_holder =
    record {
      name = codes "crash with holder";
      source =
          one_machine ++ (
          codes "command 1 acquire -r ls:r:/d:1048576 -p 7" ∷ codes "do 1 1" ∷ codes "do 1 2" ∷ codes "do 1 3" ∷ codes "do 1 4" ∷ codes "do 1 5" ∷
          codes "do 1 6" ∷ codes "crash 1" ∷ codes "pass 600" ∷ codes "test 1" ∷ codes "pass 201" ∷ codes "test 1" ∷ codes "pass 399" ∷
          codes "pass 1" ∷ []
          );
      report =
          codes "1 call 1 read /d 1048576 4" ∷ codes "1 call 2 write /d 1049600 block 1 lver 1 mbal 1 bal 0 inp 0 0 mode 0 0" ∷
          codes "1 call 3 read /d 1049600 2" ∷ codes "1 call 4 write /d 1049600 block 1 lver 1 mbal 1 bal 1 inp 1 1 mode 0 0" ∷
          codes "1 call 5 read /d 1049600 2" ∷ codes "1 call 6 write /d 1048576 leader lver 1 owner 1 gen 1 held" ∷ codes "1 grant 7 ls:r ex 1" ∷
          codes "1 reply 1 ok 1" ∷ codes "1 test ok" ∷ codes "1 test failed" ∷ codes "line 23 premise watchdog" ∷ [];
    }

-- A write of a machine that was reset lands late.
abbrev pub late_landing : Row
late_landing =
    record {
      name = codes "late landing";
      source =
          one_machine ++ (
          codes "command 1 acquire -r ls:r:/d:1048576 -p 7" ∷ codes "do 1 1" ∷ codes "reset 1" ∷ codes "pass 100" ∷ codes "land 1 2" ∷ []
          );
      report =
          codes "1 call 1 read /d 1048576 4" ∷ codes "1 call 2 write /d 1049600 block 1 lver 1 mbal 1 bal 0 inp 0 0 mode 0 0" ∷
          codes "end events 5 calls 2 grants 0 refusals 0 conflicts 0" ∷ [];
    }

-- Shared, then exclusive once the shared mode is cleared.
abbrev pub shared : Row
shared =
    record {
      name = codes "shared";
      source =
          two_machines ++ (
          codes "command 1 acquire -r ls:r:/d:1048576:SH -p 7" ∷ codes "do 1 1" ∷ codes "do 1 2" ∷ codes "do 1 3" ∷ codes "do 1 4" ∷
          codes "do 1 5" ∷ codes "do 1 6" ∷ codes "do 1 7" ∷ codes "do 1 8" ∷ codes "command 2 acquire -r ls:r:/d:1048576 -p 9" ∷ codes "do 2 1" ∷
          codes "do 2 2" ∷ codes "do 2 3" ∷ codes "command 1 release -r ls:r:/d:1048576 -p 7" ∷ codes "do 1 9" ∷
          codes "command 2 acquire -r ls:r:/d:1048576 -p 9" ∷ codes "do 2 4" ∷ codes "do 2 5" ∷ codes "do 2 6" ∷ codes "do 2 7" ∷ codes "do 2 8" ∷
          codes "do 2 9" ∷ []
          );
      report =
          codes "1 call 1 read /d 1048576 4" ∷ codes "1 call 2 write /d 1049600 block 1 lver 1 mbal 1 bal 0 inp 0 0 mode 0 0" ∷
          codes "1 call 3 read /d 1049600 2" ∷ codes "1 call 4 write /d 1049600 block 1 lver 1 mbal 1 bal 1 inp 1 1 mode 0 0" ∷
          codes "1 call 5 read /d 1049600 2" ∷ codes "1 call 6 write /d 1048576 leader lver 1 owner 1 gen 1 held" ∷
          codes "1 call 7 write /d 1049600 block 1 lver 1 mbal 1 bal 1 inp 1 1 mode 1 1" ∷
          codes "1 call 8 write /d 1048576 leader lver 1 owner 1 gen 1 free" ∷ codes "1 grant 7 ls:r sh 1" ∷ codes "1 reply 1 ok 1" ∷
          codes "2 call 1 read /d 1048576 4" ∷ codes "2 call 2 write /d 1050112 block 2 lver 2 mbal 2 bal 0 inp 0 0 mode 0 0" ∷
          codes "2 call 3 read /d 1049600 2" ∷ codes "2 reply 1 Shared 1 1" ∷ codes "1 end 7 ls:r" ∷
          codes "1 call 9 write /d 1049600 block 1 lver 1 mbal 1 bal 1 inp 1 1 mode 0 0" ∷ codes "1 reply 2 ok" ∷
          codes "2 call 4 read /d 1048576 4" ∷ codes "2 call 5 write /d 1050112 block 2 lver 2 mbal 4 bal 0 inp 0 0 mode 0 0" ∷
          codes "2 call 6 read /d 1049600 2" ∷ codes "2 call 7 write /d 1050112 block 2 lver 2 mbal 4 bal 4 inp 2 1 mode 0 0" ∷
          codes "2 call 8 read /d 1049600 2" ∷ codes "2 call 9 write /d 1048576 leader lver 2 owner 2 gen 1 held" ∷ codes "2 grant 9 ls:r ex 2" ∷
          codes "2 reply 2 ok 2" ∷ codes "end events 22 calls 18 grants 2 refusals 1 conflicts 0" ∷ [];
    }

-- Renewals stop: term, then kill, then the session ends.
abbrev pub recovery : Row
recovery =
    record {
      name = codes "recovery";
      source =
          one_machine ++ (
          codes "command 1 acquire -r ls:r:/d:1048576 -p 7" ∷ codes "do 1 1" ∷ codes "do 1 2" ∷ codes "do 1 3" ∷ codes "do 1 4" ∷ codes "do 1 5" ∷
          codes "do 1 6" ∷ codes "pass 500" ∷ codes "test 1" ∷ codes "pass 300" ∷ codes "wake 1" ∷ codes "pass 300" ∷ codes "wake 1" ∷
          codes "exit 1 7" ∷ codes "test 1" ∷ []
          );
      report =
          codes "1 call 1 read /d 1048576 4" ∷ codes "1 call 2 write /d 1049600 block 1 lver 1 mbal 1 bal 0 inp 0 0 mode 0 0" ∷
          codes "1 call 3 read /d 1049600 2" ∷ codes "1 call 4 write /d 1049600 block 1 lver 1 mbal 1 bal 1 inp 1 1 mode 0 0" ∷
          codes "1 call 5 read /d 1049600 2" ∷ codes "1 call 6 write /d 1048576 leader lver 1 owner 1 gen 1 held" ∷ codes "1 grant 7 ls:r ex 1" ∷
          codes "1 reply 1 ok 1" ∷ codes "1 test ok" ∷ codes "1 signal 7 term" ∷ codes "1 signal 7 kill" ∷ codes "1 end 7 ls:r" ∷
          codes "1 wdmd unregister ls" ∷ codes "1 test ok" ∷ codes "end events 15 calls 6 grants 1 refusals 0 conflicts 0" ∷ [];
    }

-- The same with a renewal in flight: the connection stays, so the watchdog fires.
abbrev pub recovery_with_write : Row
recovery_with_write =
    record {
      name = codes "recovery with write";
      source =
          one_machine ++ (
          codes "command 1 acquire -r ls:r:/d:1048576 -p 7" ∷ codes "do 1 1" ∷ codes "do 1 2" ∷ codes "do 1 3" ∷ codes "do 1 4" ∷ codes "do 1 5" ∷
          codes "do 1 6" ∷ codes "pass 500" ∷ codes "test 1" ∷ codes "wake 1" ∷ codes "pass 300" ∷ codes "wake 1" ∷ codes "pass 300" ∷
          codes "wake 1" ∷ codes "exit 1 7" ∷ codes "test 1" ∷ codes "pass 1" ∷ []
          );
      report =
          codes "1 call 1 read /d 1048576 4" ∷ codes "1 call 2 write /d 1049600 block 1 lver 1 mbal 1 bal 0 inp 0 0 mode 0 0" ∷
          codes "1 call 3 read /d 1049600 2" ∷ codes "1 call 4 write /d 1049600 block 1 lver 1 mbal 1 bal 1 inp 1 1 mode 0 0" ∷
          codes "1 call 5 read /d 1049600 2" ∷ codes "1 call 6 write /d 1048576 leader lver 1 owner 1 gen 1 held" ∷ codes "1 grant 7 ls:r ex 1" ∷
          codes "1 reply 1 ok 1" ∷ codes "1 test ok" ∷ codes "1 call 7 write /d 0 delta 1 gen 1 live a seq 2 stamp 500" ∷ codes "1 signal 7 term" ∷
          codes "1 signal 7 kill" ∷ codes "1 end 7 ls:r" ∷ codes "1 test failed" ∷ codes "line 26 premise watchdog" ∷ [];
    }

-- A session is left: one free record, then nothing.
abbrev pub leaving : Row
leaving =
    record {
      name = codes "leaving";
      source =
          one_machine ++ (
          codes "command 1 rem_lockspace -s ls:1:/d:0" ∷ codes "do 1 1" ∷ codes "command 1 acquire -r ls:r:/d:1048576 -p 7" ∷ []
          );
      report =
          codes "1 call 1 write /d 0 delta 1 gen 1 free a seq 2 stamp 0" ∷ codes "1 wdmd unregister ls" ∷ codes "1 reply 1 ok" ∷
          codes "1 reply 2 NoSession" ∷ codes "end events 3 calls 1 grants 0 refusals 1 conflicts 0" ∷ [];
    }

-- A request with force 1 reaches the holder, which is killed.
abbrev pub request : Row
request =
    record {
      name = codes "request";
      source =
          two_machines ++ (
          codes "command 1 acquire -r ls:r:/d:1048576 -p 7" ∷ codes "do 1 1" ∷ codes "do 1 2" ∷ codes "do 1 3" ∷ codes "do 1 4" ∷ codes "do 1 5" ∷
          codes "do 1 6" ∷ codes "command 2 request -r ls:r:/d:1048576:2 -f 1" ∷ codes "do 2 1" ∷ codes "do 2 2" ∷ codes "pass 200" ∷
          codes "wake 2" ∷ codes "do 2 3" ∷ codes "wake 1" ∷ codes "do 1 7" ∷ codes "do 1 8" ∷ codes "do 1 9" ∷ codes "exit 1 7" ∷ codes "wake 1" ∷
          codes "do 1 10" ∷ []
          );
      report =
          codes "1 call 1 read /d 1048576 4" ∷ codes "1 call 2 write /d 1049600 block 1 lver 1 mbal 1 bal 0 inp 0 0 mode 0 0" ∷
          codes "1 call 3 read /d 1049600 2" ∷ codes "1 call 4 write /d 1049600 block 1 lver 1 mbal 1 bal 1 inp 1 1 mode 0 0" ∷
          codes "1 call 5 read /d 1049600 2" ∷ codes "1 call 6 write /d 1048576 leader lver 1 owner 1 gen 1 held" ∷ codes "1 grant 7 ls:r ex 1" ∷
          codes "1 reply 1 ok 1" ∷ codes "2 call 1 read /d 1048576 2" ∷ codes "2 call 2 write /d 1049088 request lver 2 force 1 host 2" ∷
          codes "2 reply 1 ok" ∷ codes "2 call 3 write /d 512 delta 2 gen 1 live b seq 2 stamp 200 bits 1" ∷ codes "2 wdmd renew ls 1000" ∷
          codes "2 call 4 read /d 0 2" ∷ codes "1 call 7 write /d 0 delta 1 gen 1 live a seq 2 stamp 200" ∷ codes "1 wdmd renew ls 1000" ∷
          codes "1 call 8 read /d 0 2" ∷ codes "1 call 9 read /d 1049088 1" ∷ codes "1 signal 7 kill" ∷ codes "1 end 7 ls:r" ∷
          codes "1 call 10 read /d 1048576 4" ∷ codes "1 call 11 write /d 1048576 leader lver 1 owner 1 gen 1 free" ∷
          codes "end events 20 calls 15 grants 1 refusals 0 conflicts 0" ∷ [];
    }

-- A value is written torn: its reader is told so.
abbrev pub torn_value : Row
torn_value =
    record {
      name = codes "torn value";
      source =
          one_machine ++ (
          codes "command 1 acquire -r ls:r:/d:1048576 -p 7" ∷ codes "do 1 1" ∷ codes "do 1 2" ∷ codes "do 1 3" ∷ codes "do 1 4" ∷ codes "do 1 5" ∷
          codes "do 1 6" ∷ codes "command 1 set_lvb -r ls:r:/d:1048576 -p 7 -d 6162" ∷ codes "tear 1 7 480" ∷ codes "answer 1 7 failed" ∷
          codes "command 1 get_lvb -r ls:r:/d:1048576 -p 7" ∷ codes "do 1 8" ∷ []
          );
      report =
          codes "1 call 1 read /d 1048576 4" ∷ codes "1 call 2 write /d 1049600 block 1 lver 1 mbal 1 bal 0 inp 0 0 mode 0 0" ∷
          codes "1 call 3 read /d 1049600 2" ∷ codes "1 call 4 write /d 1049600 block 1 lver 1 mbal 1 bal 1 inp 1 1 mode 0 0" ∷
          codes "1 call 5 read /d 1049600 2" ∷ codes "1 call 6 write /d 1048576 leader lver 1 owner 1 gen 1 held" ∷ codes "1 grant 7 ls:r ex 1" ∷
          codes "1 reply 1 ok 1" ∷ codes "1 call 7 write /d 2096640 value lver 1 seq 1 len 2" ∷ codes "1 reply 2 IoFault 7" ∷
          codes "1 call 8 read /d 2096640 1" ∷ codes "1 reply 3 ValueTorn" ∷ codes "end events 12 calls 8 grants 1 refusals 2 conflicts 0" ∷ [];
    }

-- Seven refusals, each by its own rule.
abbrev pub refusals : Row
refusals =
    record {
      name = codes "refusals";
      source =
          one_machine ++ (
          codes "command 1 acquire -r ls:r:/d:1048576 -p 7" ∷ codes "do 1 1" ∷ codes "do 1 2" ∷ codes "do 1 3" ∷ codes "do 1 4" ∷ codes "do 1 5" ∷
          codes "do 1 6" ∷ codes "command 1 acquire -r ls:r:/d:1048576 -p 8" ∷ codes "command 1 release -r ls:r:/d:1048576 -p 8" ∷
          codes "command 1 acquire -r l2:r:/d:1048576 -p 8" ∷ codes "command 1 acquire -r ls:r:/d:5 -p 7" ∷ codes "command 1 acquire" ∷
          codes "command 1 add_lockspace -s ls:1:/d:0" ∷ codes "command 1 acquire -r ls:r:/d:1048576 -p 1000009" ∷ []
          );
      report =
          codes "1 call 1 read /d 1048576 4" ∷ codes "1 call 2 write /d 1049600 block 1 lver 1 mbal 1 bal 0 inp 0 0 mode 0 0" ∷
          codes "1 call 3 read /d 1049600 2" ∷ codes "1 call 4 write /d 1049600 block 1 lver 1 mbal 1 bal 1 inp 1 1 mode 0 0" ∷
          codes "1 call 5 read /d 1049600 2" ∷ codes "1 call 6 write /d 1048576 leader lver 1 owner 1 gen 1 held" ∷ codes "1 grant 7 ls:r ex 1" ∷
          codes "1 reply 1 ok 1" ∷ codes "1 reply 2 Busy 7" ∷ codes "1 reply 3 NotHeld" ∷ codes "1 reply 4 NoSession" ∷
          codes "1 reply 5 BadCommand 12" ∷ codes "1 reply 6 BadCommand 8" ∷ codes "1 reply 7 Joined 1" ∷ codes "1 reply 8 NoProcess 1000009" ∷
          codes "end events 14 calls 6 grants 1 refusals 7 conflicts 0" ∷ [];
    }
