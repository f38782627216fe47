-- Worked schedules of the later stages, as rows.
use Rattle.sl_examples.specs.WorkedSchedules.{Row}
use Rattle.std.specs.Prelude.{List, codes, [], ℕ, ◌∷◌}

-- The lines of: orphan kept.
abbrev pub orphan_kept_source : List (List ℕ)
orphan_kept_source = codes "sanlock 1" ∷ codes "time 100 600 100 0 300" ∷ codes "hosts 1" ∷ codes "ids 2" ∷ codes "disk /d 4" ∷ codes "lockspace ls /d 0" ∷ codes "resource ls r /d 1048576" ∷ codes "session 1 ls 1 a" ∷ codes "begin" ∷ codes "command 1 acquire -r ls:r:/d:1048576 -p 7 -P 1" ∷ codes "do 1 1" ∷ codes "do 1 2" ∷ codes "do 1 3" ∷ codes "do 1 4" ∷ codes "do 1 5" ∷ codes "do 1 6" ∷ codes "exit 1 7" ∷ codes "command 1 acquire -r ls:r:/d:1048576 -p 8" ∷ codes "command 1 acquire -r ls:r:/d:1048576 -p 8 -O 1" ∷ codes "command 1 release -r ls:r:/d:1048576 -O 1" ∷ []

-- Its report.
abbrev pub orphan_kept_report : List (List ℕ)
orphan_kept_report = codes "1 call 1 read /d 1048576 4" ∷ codes "1 call 2 write /d 1049600 block 1 lver 1 mbal 1 bal 0 inp 0 0 mode 0 0" ∷ codes "1 call 3 read /d 1049600 2" ∷ codes "1 call 4 write /d 1049600 block 1 lver 1 mbal 1 bal 1 inp 1 1 mode 0 0" ∷ codes "1 call 5 read /d 1049600 2" ∷ codes "1 call 6 write /d 1048576 leader lver 1 owner 1 gen 1 held" ∷ codes "1 grant 7 ls:r ex 1" ∷ codes "1 reply 1 ok 1" ∷ codes "1 end 7 ls:r" ∷ codes "1 grant 0 ls:r ex 1" ∷ codes "1 reply 2 Busy 0" ∷ codes "1 end 0 ls:r" ∷ codes "1 grant 8 ls:r ex 1" ∷ codes "1 reply 3 ok 1" ∷ codes "1 reply 4 NoOrphan" ∷ codes "end events 11 calls 6 grants 3 refusals 2 conflicts 0" ∷ []

-- Both.
abbrev pub orphan_kept : Row
orphan_kept = record { name = codes "orphan kept"; source = orphan_kept_source; report = orphan_kept_report }

-- The lines of: orphan stops leaving.
abbrev pub orphan_stops_leaving_source : List (List ℕ)
orphan_stops_leaving_source = codes "sanlock 1" ∷ codes "time 100 600 100 0 300" ∷ codes "hosts 1" ∷ codes "ids 2" ∷ codes "disk /d 4" ∷ codes "lockspace ls /d 0" ∷ codes "resource ls r /d 1048576" ∷ codes "session 1 ls 1 a" ∷ codes "begin" ∷ codes "command 1 acquire -r ls:r:/d:1048576 -p 7 -P 1" ∷ codes "do 1 1" ∷ codes "do 1 2" ∷ codes "do 1 3" ∷ codes "do 1 4" ∷ codes "do 1 5" ∷ codes "do 1 6" ∷ codes "exit 1 7" ∷ codes "command 1 rem_lockspace -s ls:1:/d:0" ∷ codes "command 1 release -r ls:r:/d:1048576 -O 1" ∷ []

-- Its report.
abbrev pub orphan_stops_leaving_report : List (List ℕ)
orphan_stops_leaving_report = codes "1 call 1 read /d 1048576 4" ∷ codes "1 call 2 write /d 1049600 block 1 lver 1 mbal 1 bal 0 inp 0 0 mode 0 0" ∷ codes "1 call 3 read /d 1049600 2" ∷ codes "1 call 4 write /d 1049600 block 1 lver 1 mbal 1 bal 1 inp 1 1 mode 0 0" ∷ codes "1 call 5 read /d 1049600 2" ∷ codes "1 call 6 write /d 1048576 leader lver 1 owner 1 gen 1 held" ∷ codes "1 grant 7 ls:r ex 1" ∷ codes "1 reply 1 ok 1" ∷ codes "1 end 7 ls:r" ∷ codes "1 grant 0 ls:r ex 1" ∷ codes "1 reply 2 Busy 0" ∷ codes "1 end 0 ls:r" ∷ codes "1 call 7 write /d 1048576 leader lver 1 owner 1 gen 1 free" ∷ codes "end events 10 calls 7 grants 2 refusals 1 conflicts 0" ∷ []

-- Both.
abbrev pub orphan_stops_leaving : Row
orphan_stops_leaving = record { name = codes "orphan stops leaving"; source = orphan_stops_leaving_source; report = orphan_stops_leaving_report }

-- The lines of: converted both ways.
abbrev pub converted_both_ways_source : List (List ℕ)
converted_both_ways_source = codes "sanlock 1" ∷ codes "time 100 600 100 0 300" ∷ codes "hosts 1" ∷ codes "ids 2" ∷ codes "disk /d 4" ∷ codes "lockspace ls /d 0" ∷ codes "resource ls r /d 1048576" ∷ codes "session 1 ls 1 a" ∷ codes "begin" ∷ codes "command 1 acquire -r ls:r:/d:1048576 -p 7" ∷ codes "do 1 1" ∷ codes "do 1 2" ∷ codes "do 1 3" ∷ codes "do 1 4" ∷ codes "do 1 5" ∷ codes "do 1 6" ∷ codes "command 1 convert -r ls:r:/d:1048576:SH -p 7" ∷ codes "do 1 7" ∷ codes "do 1 8" ∷ codes "command 1 convert -r ls:r:/d:1048576 -p 7" ∷ codes "do 1 9" ∷ codes "do 1 10" ∷ codes "do 1 11" ∷ codes "do 1 12" ∷ codes "do 1 13" ∷ codes "do 1 14" ∷ codes "do 1 15" ∷ []

-- Its report.
abbrev pub converted_both_ways_report : List (List ℕ)
converted_both_ways_report = codes "1 call 1 read /d 1048576 4" ∷ codes "1 call 2 write /d 1049600 block 1 lver 1 mbal 1 bal 0 inp 0 0 mode 0 0" ∷ codes "1 call 3 read /d 1049600 2" ∷ codes "1 call 4 write /d 1049600 block 1 lver 1 mbal 1 bal 1 inp 1 1 mode 0 0" ∷ codes "1 call 5 read /d 1049600 2" ∷ codes "1 call 6 write /d 1048576 leader lver 1 owner 1 gen 1 held" ∷ codes "1 grant 7 ls:r ex 1" ∷ codes "1 reply 1 ok 1" ∷ codes "1 call 7 write /d 1049600 block 1 lver 1 mbal 1 bal 1 inp 1 1 mode 1 1" ∷ codes "1 end 7 ls:r" ∷ codes "1 grant 7 ls:r sh 1" ∷ codes "1 reply 2 ok 1" ∷ codes "1 call 8 write /d 1048576 leader lver 1 owner 1 gen 1 free" ∷ codes "1 call 9 read /d 1048576 4" ∷ codes "1 call 10 write /d 1049600 block 1 lver 2 mbal 1 bal 0 inp 0 0 mode 1 1" ∷ codes "1 call 11 read /d 1049600 2" ∷ codes "1 call 12 write /d 1049600 block 1 lver 2 mbal 1 bal 1 inp 1 1 mode 1 1" ∷ codes "1 call 13 read /d 1049600 2" ∷ codes "1 call 14 write /d 1048576 leader lver 2 owner 1 gen 1 held" ∷ codes "1 end 7 ls:r" ∷ codes "1 grant 7 ls:r ex 2" ∷ codes "1 reply 3 ok 2" ∷ codes "1 call 15 write /d 1049600 block 1 lver 2 mbal 1 bal 1 inp 1 1 mode 0 0" ∷ codes "end events 18 calls 15 grants 3 refusals 0 conflicts 0" ∷ []

-- Both.
abbrev pub converted_both_ways : Row
converted_both_ways = record { name = codes "converted both ways"; source = converted_both_ways_source; report = converted_both_ways_report }

-- The lines of: conversion refused.
abbrev pub conversion_refused_source : List (List ℕ)
conversion_refused_source = codes "sanlock 1" ∷ codes "time 100 600 100 0 300" ∷ codes "hosts 2" ∷ codes "ids 2" ∷ codes "disk /d 4" ∷ codes "lockspace ls /d 0" ∷ codes "resource ls r /d 1048576" ∷ codes "session 1 ls 1 a" ∷ codes "session 2 ls 2 b" ∷ codes "begin" ∷ codes "command 1 acquire -r ls:r:/d:1048576:SH -p 7" ∷ codes "do 1 1" ∷ codes "do 1 2" ∷ codes "do 1 3" ∷ codes "do 1 4" ∷ codes "do 1 5" ∷ codes "do 1 6" ∷ codes "do 1 7" ∷ codes "do 1 8" ∷ codes "command 2 acquire -r ls:r:/d:1048576:SH -p 9" ∷ codes "do 2 1" ∷ codes "do 2 2" ∷ codes "do 2 3" ∷ codes "do 2 4" ∷ codes "do 2 5" ∷ codes "do 2 6" ∷ codes "do 2 7" ∷ codes "do 2 8" ∷ codes "command 1 convert -r ls:r:/d:1048576 -p 7" ∷ codes "do 1 9" ∷ codes "do 1 10" ∷ codes "do 1 11" ∷ []

-- Its report.
abbrev pub conversion_refused_report : List (List ℕ)
conversion_refused_report = codes "1 call 1 read /d 1048576 4" ∷ codes "1 call 2 write /d 1049600 block 1 lver 1 mbal 1 bal 0 inp 0 0 mode 0 0" ∷ codes "1 call 3 read /d 1049600 2" ∷ codes "1 call 4 write /d 1049600 block 1 lver 1 mbal 1 bal 1 inp 1 1 mode 0 0" ∷ codes "1 call 5 read /d 1049600 2" ∷ codes "1 call 6 write /d 1048576 leader lver 1 owner 1 gen 1 held" ∷ codes "1 call 7 write /d 1049600 block 1 lver 1 mbal 1 bal 1 inp 1 1 mode 1 1" ∷ codes "1 call 8 write /d 1048576 leader lver 1 owner 1 gen 1 free" ∷ codes "1 grant 7 ls:r sh 1" ∷ codes "1 reply 1 ok 1" ∷ codes "2 call 1 read /d 1048576 4" ∷ codes "2 call 2 write /d 1050112 block 2 lver 2 mbal 2 bal 0 inp 0 0 mode 0 0" ∷ codes "2 call 3 read /d 1049600 2" ∷ codes "2 call 4 write /d 1050112 block 2 lver 2 mbal 2 bal 2 inp 2 1 mode 0 0" ∷ codes "2 call 5 read /d 1049600 2" ∷ codes "2 call 6 write /d 1048576 leader lver 2 owner 2 gen 1 held" ∷ codes "2 call 7 write /d 1050112 block 2 lver 2 mbal 2 bal 2 inp 2 1 mode 1 1" ∷ codes "2 call 8 write /d 1048576 leader lver 2 owner 2 gen 1 free" ∷ codes "2 grant 9 ls:r sh 2" ∷ codes "2 reply 1 ok 2" ∷ codes "1 call 9 read /d 1048576 4" ∷ codes "1 call 10 write /d 1049600 block 1 lver 3 mbal 1 bal 0 inp 0 0 mode 1 1" ∷ codes "1 call 11 read /d 1049600 2" ∷ codes "1 reply 2 Shared 2 1" ∷ codes "end events 22 calls 19 grants 2 refusals 1 conflicts 0" ∷ []

-- Both.
abbrev pub conversion_refused : Row
conversion_refused = record { name = codes "conversion refused"; source = conversion_refused_source; report = conversion_refused_report }

-- The lines of: kill program not started.
abbrev pub kill_program_not_started_source : List (List ℕ)
kill_program_not_started_source = codes "sanlock 1" ∷ codes "time 100 600 100 0 300" ∷ codes "hosts 1" ∷ codes "ids 2" ∷ codes "disk /d 4" ∷ codes "lockspace ls /d 0" ∷ codes "resource ls r /d 1048576" ∷ codes "session 1 ls 1 a" ∷ codes "begin" ∷ codes "command 1 acquire -r ls:r:/d:1048576 -p 7" ∷ codes "do 1 1" ∷ codes "do 1 2" ∷ codes "do 1 3" ∷ codes "do 1 4" ∷ codes "do 1 5" ∷ codes "do 1 6" ∷ codes "command 1 set_killpath -p 7 -c /bin/stop" ∷ codes "pass 500" ∷ codes "test 1" ∷ codes "pass 300" ∷ codes "wake 1" ∷ codes "spawned 1 1000001 failed" ∷ codes "pass 300" ∷ codes "wake 1" ∷ []

-- Its report.
abbrev pub kill_program_not_started_report : List (List ℕ)
kill_program_not_started_report = codes "1 call 1 read /d 1048576 4" ∷ codes "1 call 2 write /d 1049600 block 1 lver 1 mbal 1 bal 0 inp 0 0 mode 0 0" ∷ codes "1 call 3 read /d 1049600 2" ∷ codes "1 call 4 write /d 1049600 block 1 lver 1 mbal 1 bal 1 inp 1 1 mode 0 0" ∷ codes "1 call 5 read /d 1049600 2" ∷ codes "1 call 6 write /d 1048576 leader lver 1 owner 1 gen 1 held" ∷ codes "1 grant 7 ls:r ex 1" ∷ codes "1 reply 1 ok 1" ∷ codes "1 reply 2 ok" ∷ codes "1 test ok" ∷ codes "1 start 1000001 /bin/stop" ∷ codes "1 signal 7 term" ∷ codes "1 signal 7 kill" ∷ codes "end events 15 calls 6 grants 1 refusals 0 conflicts 0" ∷ []

-- Both.
abbrev pub kill_program_not_started : Row
kill_program_not_started = record { name = codes "kill program not started"; source = kill_program_not_started_source; report = kill_program_not_started_report }

-- The lines of: kill program by request.
abbrev pub kill_program_by_request_source : List (List ℕ)
kill_program_by_request_source = codes "sanlock 1" ∷ codes "time 100 600 100 0 300" ∷ codes "hosts 2" ∷ codes "ids 2" ∷ codes "disk /d 4" ∷ codes "lockspace ls /d 0" ∷ codes "resource ls r /d 1048576" ∷ codes "session 1 ls 1 a" ∷ codes "session 2 ls 2 b" ∷ codes "begin" ∷ codes "command 1 acquire -r ls:r:/d:1048576 -p 7" ∷ codes "do 1 1" ∷ codes "do 1 2" ∷ codes "do 1 3" ∷ codes "do 1 4" ∷ codes "do 1 5" ∷ codes "do 1 6" ∷ codes "command 1 set_killpath -p 7 -c /bin/stop" ∷ codes "command 2 request -r ls:r:/d:1048576:2 -f 2" ∷ codes "do 2 1" ∷ codes "do 2 2" ∷ codes "pass 200" ∷ codes "wake 2" ∷ codes "do 2 3" ∷ codes "wake 1" ∷ codes "do 1 7" ∷ codes "do 1 8" ∷ codes "do 1 9" ∷ codes "exit 1 7" ∷ codes "wake 1" ∷ codes "do 1 10" ∷ []

-- Its report.
abbrev pub kill_program_by_request_report : List (List ℕ)
kill_program_by_request_report = codes "1 call 1 read /d 1048576 4" ∷ codes "1 call 2 write /d 1049600 block 1 lver 1 mbal 1 bal 0 inp 0 0 mode 0 0" ∷ codes "1 call 3 read /d 1049600 2" ∷ codes "1 call 4 write /d 1049600 block 1 lver 1 mbal 1 bal 1 inp 1 1 mode 0 0" ∷ codes "1 call 5 read /d 1049600 2" ∷ codes "1 call 6 write /d 1048576 leader lver 1 owner 1 gen 1 held" ∷ codes "1 grant 7 ls:r ex 1" ∷ codes "1 reply 1 ok 1" ∷ codes "1 reply 2 ok" ∷ codes "2 call 1 read /d 1048576 2" ∷ codes "2 call 2 write /d 1049088 request lver 2 force 2 host 2" ∷ codes "2 reply 1 ok" ∷ codes "2 call 3 write /d 512 delta 2 gen 1 live b seq 2 stamp 200 bits 1" ∷ codes "2 wdmd renew ls 1000" ∷ codes "2 call 4 read /d 0 2" ∷ codes "1 call 7 write /d 0 delta 1 gen 1 live a seq 2 stamp 200" ∷ codes "1 wdmd renew ls 1000" ∷ codes "1 call 8 read /d 0 2" ∷ codes "1 call 9 read /d 1049088 1" ∷ codes "1 start 1000001 /bin/stop" ∷ codes "1 end 7 ls:r" ∷ codes "1 call 10 read /d 1048576 4" ∷ codes "1 call 11 write /d 1048576 leader lver 1 owner 1 gen 1 free" ∷ codes "end events 21 calls 15 grants 1 refusals 0 conflicts 0" ∷ []

-- Both.
abbrev pub kill_program_by_request : Row
kill_program_by_request = record { name = codes "kill program by request"; source = kill_program_by_request_source; report = kill_program_by_request_report }

-- The lines of: group lock.
abbrev pub group_lock_source : List (List ℕ)
group_lock_source = codes "sanlock 1" ∷ codes "time 100 600 100 0 300" ∷ codes "hosts 1" ∷ codes "ids 2" ∷ codes "disk /dev/mapper/vg0-lvmlock 4" ∷ codes "lockspace lvm_vg0 /dev/mapper/vg0-lvmlock 0" ∷ codes "resource lvm_vg0 VGLK /dev/mapper/vg0-lvmlock 2097152" ∷ codes "session 1 lvm_vg0 1 a" ∷ codes "begin" ∷ codes "command 1 lvm lock_vg vg0 -m ex" ∷ codes "do 1 1" ∷ codes "do 1 2" ∷ codes "do 1 3" ∷ codes "do 1 4" ∷ codes "do 1 5" ∷ codes "do 1 6" ∷ codes "do 1 7" ∷ codes "command 1 lvm lock_vg vg0 -m un -w" ∷ codes "do 1 8" ∷ codes "do 1 9" ∷ codes "command 1 lvm lock_vg vg0 -m ex" ∷ codes "do 1 10" ∷ codes "do 1 11" ∷ codes "do 1 12" ∷ codes "do 1 13" ∷ codes "do 1 14" ∷ codes "do 1 15" ∷ codes "do 1 16" ∷ []

-- Its report.
abbrev pub group_lock_report : List (List ℕ)
group_lock_report = codes "1 call 1 read /dev/mapper/vg0-lvmlock 2097152 4" ∷ codes "1 call 2 write /dev/mapper/vg0-lvmlock 2098176 block 1 lver 1 mbal 1 bal 0 inp 0 0 mode 0 0" ∷ codes "1 call 3 read /dev/mapper/vg0-lvmlock 2098176 2" ∷ codes "1 call 4 write /dev/mapper/vg0-lvmlock 2098176 block 1 lver 1 mbal 1 bal 1 inp 1 1 mode 0 0" ∷ codes "1 call 5 read /dev/mapper/vg0-lvmlock 2098176 2" ∷ codes "1 call 6 write /dev/mapper/vg0-lvmlock 2097152 leader lver 1 owner 1 gen 1 held" ∷ codes "1 grant 1000000 lvm_vg0:VGLK ex 1" ∷ codes "1 call 7 read /dev/mapper/vg0-lvmlock 3145216 1" ∷ codes "1 reply 1 ok changed" ∷ codes "1 call 8 write /dev/mapper/vg0-lvmlock 3145216 value lver 1 seq 1 len 1" ∷ codes "1 end 1000000 lvm_vg0:VGLK" ∷ codes "1 call 9 write /dev/mapper/vg0-lvmlock 2097152 leader lver 1 owner 1 gen 1 free" ∷ codes "1 reply 4 ok" ∷ codes "1 call 10 read /dev/mapper/vg0-lvmlock 2097152 4" ∷ codes "1 call 11 write /dev/mapper/vg0-lvmlock 2098176 block 1 lver 2 mbal 1 bal 0 inp 0 0 mode 0 0" ∷ codes "1 call 12 read /dev/mapper/vg0-lvmlock 2098176 2" ∷ codes "1 call 13 write /dev/mapper/vg0-lvmlock 2098176 block 1 lver 2 mbal 1 bal 1 inp 1 1 mode 0 0" ∷ codes "1 call 14 read /dev/mapper/vg0-lvmlock 2098176 2" ∷ codes "1 call 15 write /dev/mapper/vg0-lvmlock 2097152 leader lver 2 owner 1 gen 1 held" ∷ codes "1 grant 1000000 lvm_vg0:VGLK ex 2" ∷ codes "1 call 16 read /dev/mapper/vg0-lvmlock 3145216 1" ∷ codes "1 reply 7 ok same" ∷ codes "end events 19 calls 16 grants 2 refusals 0 conflicts 0" ∷ []

-- Both.
abbrev pub group_lock : Row
group_lock = record { name = codes "group lock"; source = group_lock_source; report = group_lock_report }

-- The lines of: volume held elsewhere.
abbrev pub volume_held_elsewhere_source : List (List ℕ)
volume_held_elsewhere_source = codes "sanlock 1" ∷ codes "time 100 600 100 0 300" ∷ codes "hosts 2" ∷ codes "ids 2" ∷ codes "disk /dev/mapper/vg0-lvmlock 4" ∷ codes "lockspace lvm_vg0 /dev/mapper/vg0-lvmlock 0" ∷ codes "resource lvm_vg0 lv1 /dev/mapper/vg0-lvmlock 3145728" ∷ codes "session 1 lvm_vg0 1 a" ∷ codes "session 2 lvm_vg0 2 b" ∷ codes "begin" ∷ codes "command 1 lvm activate vg0/lv1 -m ex -a 3" ∷ codes "do 1 1" ∷ codes "do 1 2" ∷ codes "do 1 3" ∷ codes "do 1 4" ∷ codes "do 1 5" ∷ codes "do 1 6" ∷ codes "command 2 lvm activate vg0/lv1 -m ex -a 3" ∷ codes "do 2 1" ∷ codes "command 1 lvm info" ∷ []

-- Its report.
abbrev pub volume_held_elsewhere_report : List (List ℕ)
volume_held_elsewhere_report = codes "1 call 1 read /dev/mapper/vg0-lvmlock 3145728 4" ∷ codes "1 call 2 write /dev/mapper/vg0-lvmlock 3146752 block 1 lver 1 mbal 1 bal 0 inp 0 0 mode 0 0" ∷ codes "1 call 3 read /dev/mapper/vg0-lvmlock 3146752 2" ∷ codes "1 call 4 write /dev/mapper/vg0-lvmlock 3146752 block 1 lver 1 mbal 1 bal 1 inp 1 1 mode 0 0" ∷ codes "1 call 5 read /dev/mapper/vg0-lvmlock 3146752 2" ∷ codes "1 call 6 write /dev/mapper/vg0-lvmlock 3145728 leader lver 1 owner 1 gen 1 held" ∷ codes "1 grant 1000000 lvm_vg0:lv1 ex 1" ∷ codes "1 reply 1 ok 1" ∷ codes "2 call 1 read /dev/mapper/vg0-lvmlock 3145728 4" ∷ codes "2 reply 1 Held 1 1 1" ∷ codes "1 reply 3 ok vg0/lv1:ex" ∷ codes "end events 10 calls 7 grants 1 refusals 1 conflicts 0" ∷ []

-- Both.
abbrev pub volume_held_elsewhere : Row
volume_held_elsewhere = record { name = codes "volume held elsewhere"; source = volume_held_elsewhere_source; report = volume_held_elsewhere_report }
