-- The numbers of Ceph's messages and their names. Source: Ceph's include/ceph_fs.h and msg/Message.h. A number that has had
-- two meanings in releases, or that isn't known for sure, stands in none of the tables.
use Rattle.std.specs.Prelude.{ℕ, ◌==◌, if◌then◌else◌, List, Option, Some, None, codes}

-- those between clients and monitors, and of both, as include/ceph_fs.h has them
abbrev pub with_monitors : ℕ → Option (List ℕ)
with_monitors number =
    if number == 1 then Some (codes "CEPH_MSG_SHUTDOWN")
    else if number == 2 then Some (codes "CEPH_MSG_PING")
    else if number == 4 then Some (codes "CEPH_MSG_MON_MAP")
    else if number == 5 then Some (codes "CEPH_MSG_MON_GET_MAP")
    else if number == 6 then Some (codes "CEPH_MSG_MON_GET_OSDMAP")
    else if number == 7 then Some (codes "CEPH_MSG_MON_METADATA")
    else if number == 13 then Some (codes "CEPH_MSG_STATFS")
    else if number == 14 then Some (codes "CEPH_MSG_STATFS_REPLY")
    else if number == 15 then Some (codes "CEPH_MSG_MON_SUBSCRIBE")
    else if number == 16 then Some (codes "CEPH_MSG_MON_SUBSCRIBE_ACK")
    else if number == 17 then Some (codes "CEPH_MSG_AUTH")
    else if number == 18 then Some (codes "CEPH_MSG_AUTH_REPLY")
    else if number == 19 then Some (codes "CEPH_MSG_MON_GET_VERSION")
    else if number == 20 then Some (codes "CEPH_MSG_MON_GET_VERSION_REPLY")
    else if number == 21 then Some (codes "CEPH_MSG_MDS_MAP")
    else if number == 41 then Some (codes "CEPH_MSG_OSD_MAP")
    else if number == 45 then Some (codes "CEPH_MSG_FS_MAP")
    else if number == 48 then Some (codes "CEPH_MSG_POOLOP_REPLY")
    else if number == 49 then Some (codes "CEPH_MSG_POOLOP")
    else if number == 103 then Some (codes "CEPH_MSG_FS_MAP_USER")
    else None

-- those between clients and metadata servers or OSDs, as include/ceph_fs.h has them
abbrev pub of_clients : ℕ → Option (List ℕ)
of_clients number =
    if number == 22 then Some (codes "CEPH_MSG_CLIENT_SESSION")
    else if number == 23 then Some (codes "CEPH_MSG_CLIENT_RECONNECT")
    else if number == 24 then Some (codes "CEPH_MSG_CLIENT_REQUEST")
    else if number == 25 then Some (codes "CEPH_MSG_CLIENT_REQUEST_FORWARD")
    else if number == 26 then Some (codes "CEPH_MSG_CLIENT_REPLY")
    else if number == 27 then Some (codes "CEPH_MSG_CLIENT_RECLAIM")
    else if number == 28 then Some (codes "CEPH_MSG_CLIENT_RECLAIM_REPLY")
    else if number == 29 then Some (codes "CEPH_MSG_CLIENT_METRICS")
    else if number == 42 then Some (codes "CEPH_MSG_OSD_OP")
    else if number == 43 then Some (codes "CEPH_MSG_OSD_OPREPLY")
    else if number == 44 then Some (codes "CEPH_MSG_WATCH_NOTIFY")
    else if number == 61 then Some (codes "CEPH_MSG_OSD_BACKOFF")
    else if number == 784 then Some (codes "CEPH_MSG_CLIENT_CAPS")
    else if number == 785 then Some (codes "CEPH_MSG_CLIENT_LEASE")
    else if number == 786 then Some (codes "CEPH_MSG_CLIENT_SNAP")
    else if number == 787 then Some (codes "CEPH_MSG_CLIENT_CAPRELEASE")
    else if number == 788 then Some (codes "CEPH_MSG_CLIENT_QUOTA")
    else None

-- those of monitors, and of commands and logs, as msg/Message.h has them
abbrev pub of_monitors : ℕ → Option (List ℕ)
of_monitors number =
    if number == 40 then Some (codes "MSG_PAXOS")
    else if number == 46 then Some (codes "MSG_FORWARD")
    else if number == 47 then Some (codes "MSG_ROUTE")
    else if number == 50 then Some (codes "MSG_MON_COMMAND")
    else if number == 51 then Some (codes "MSG_MON_COMMAND_ACK")
    else if number == 52 then Some (codes "MSG_LOG")
    else if number == 53 then Some (codes "MSG_LOGACK")
    else if number == 58 then Some (codes "MSG_GETPOOLSTATS")
    else if number == 59 then Some (codes "MSG_GETPOOLSTATSREPLY")
    else if number == 60 then Some (codes "MSG_MON_GLOBAL_ID")
    else if number == 62 then Some (codes "MSG_CONFIG")
    else if number == 63 then Some (codes "MSG_GET_CONFIG")
    else if number == 64 then Some (codes "MSG_MON_SCRUB")
    else if number == 65 then Some (codes "MSG_MON_ELECTION")
    else if number == 66 then Some (codes "MSG_MON_PAXOS")
    else if number == 67 then Some (codes "MSG_MON_PROBE")
    else if number == 68 then Some (codes "MSG_MON_JOIN")
    else if number == 69 then Some (codes "MSG_MON_SYNC")
    else if number == 97 then Some (codes "MSG_COMMAND")
    else if number == 98 then Some (codes "MSG_COMMAND_REPLY")
    else if number == 140 then Some (codes "MSG_MON_PING")
    else if number == 1536 then Some (codes "MSG_TIMECHECK")
    else if number == 1537 then Some (codes "MSG_MON_HEALTH")
    else None

-- those of OSDs, the lower numbers, as msg/Message.h has them
abbrev pub of_osds : ℕ → Option (List ℕ)
of_osds number =
    if number == 70 then Some (codes "MSG_OSD_PING")
    else if number == 71 then Some (codes "MSG_OSD_BOOT")
    else if number == 72 then Some (codes "MSG_OSD_FAILURE")
    else if number == 73 then Some (codes "MSG_OSD_ALIVE")
    else if number == 74 then Some (codes "MSG_OSD_MARK_ME_DOWN")
    else if number == 75 then Some (codes "MSG_OSD_FULL")
    else if number == 78 then Some (codes "MSG_OSD_PGTEMP")
    else if number == 79 then Some (codes "MSG_OSD_BEACON")
    else if number == 80 then Some (codes "MSG_OSD_PG_NOTIFY")
    else if number == 81 then Some (codes "MSG_OSD_PG_QUERY")
    else if number == 83 then Some (codes "MSG_OSD_PG_LOG")
    else if number == 84 then Some (codes "MSG_OSD_PG_REMOVE")
    else if number == 85 then Some (codes "MSG_OSD_PG_INFO")
    else if number == 86 then Some (codes "MSG_OSD_PG_TRIM")
    else if number == 87 then Some (codes "MSG_PGSTATS")
    else if number == 88 then Some (codes "MSG_PGSTATSACK")
    else if number == 89 then Some (codes "MSG_OSD_PG_CREATE")
    else if number == 90 then Some (codes "MSG_REMOVE_SNAPS")
    else if number == 91 then Some (codes "MSG_OSD_SCRUB")
    else if number == 93 then Some (codes "MSG_OSD_REP_SCRUB")
    else if number == 94 then Some (codes "MSG_OSD_PG_SCAN")
    else if number == 95 then Some (codes "MSG_OSD_PG_BACKFILL")
    else if number == 96 then Some (codes "MSG_OSD_PG_BACKFILL_REMOVE")
    else if number == 99 then Some (codes "MSG_OSD_BACKFILL_RESERVE")
    else None

-- those of OSDs, the higher numbers, as msg/Message.h has them
abbrev pub of_recovery : ℕ → Option (List ℕ)
of_recovery number =
    if number == 105 then Some (codes "MSG_OSD_PG_PUSH")
    else if number == 106 then Some (codes "MSG_OSD_PG_PULL")
    else if number == 107 then Some (codes "MSG_OSD_PG_PUSH_REPLY")
    else if number == 108 then Some (codes "MSG_OSD_EC_WRITE")
    else if number == 109 then Some (codes "MSG_OSD_EC_WRITE_REPLY")
    else if number == 110 then Some (codes "MSG_OSD_EC_READ")
    else if number == 111 then Some (codes "MSG_OSD_EC_READ_REPLY")
    else if number == 112 then Some (codes "MSG_OSD_REPOP")
    else if number == 113 then Some (codes "MSG_OSD_REPOPREPLY")
    else if number == 114 then Some (codes "MSG_OSD_PG_UPDATE_LOG_MISSING")
    else if number == 115 then Some (codes "MSG_OSD_PG_UPDATE_LOG_MISSING_REPLY")
    else if number == 116 then Some (codes "MSG_OSD_PG_CREATED")
    else if number == 117 then Some (codes "MSG_OSD_REP_SCRUBMAP")
    else if number == 118 then Some (codes "MSG_OSD_PG_RECOVERY_DELETE")
    else if number == 119 then Some (codes "MSG_OSD_PG_RECOVERY_DELETE_REPLY")
    else if number == 120 then Some (codes "MSG_OSD_PG_CREATE2")
    else if number == 121 then Some (codes "MSG_OSD_SCRUB2")
    else if number == 122 then Some (codes "MSG_OSD_PG_READY_TO_MERGE")
    else if number == 123 then Some (codes "MSG_OSD_MARK_ME_DEAD")
    else if number == 130 then Some (codes "MSG_OSD_PG_NOTIFY2")
    else if number == 131 then Some (codes "MSG_OSD_PG_QUERY2")
    else if number == 132 then Some (codes "MSG_OSD_PG_INFO2")
    else if number == 133 then Some (codes "MSG_OSD_PG_LEASE")
    else if number == 134 then Some (codes "MSG_OSD_PG_LEASE_ACK")
    else if number == 150 then Some (codes "MSG_OSD_RECOVERY_RESERVE")
    else if number == 151 then Some (codes "MSG_OSD_FORCE_RECOVERY")
    else None

-- those of metadata servers, as msg/Message.h has them
abbrev pub of_metadata_servers : ℕ → Option (List ℕ)
of_metadata_servers number =
    if number == 100 then Some (codes "MSG_MDS_BEACON")
    else if number == 102 then Some (codes "MSG_MDS_TABLE_REQUEST")
    else if number == 512 then Some (codes "MSG_MDS_RESOLVE")
    else if number == 513 then Some (codes "MSG_MDS_RESOLVEACK")
    else if number == 514 then Some (codes "MSG_MDS_CACHEREJOIN")
    else if number == 515 then Some (codes "MSG_MDS_DISCOVER")
    else if number == 516 then Some (codes "MSG_MDS_DISCOVERREPLY")
    else if number == 517 then Some (codes "MSG_MDS_INODEUPDATE")
    else if number == 518 then Some (codes "MSG_MDS_DIRUPDATE")
    else if number == 519 then Some (codes "MSG_MDS_CACHEEXPIRE")
    else if number == 520 then Some (codes "MSG_MDS_DENTRYUNLINK")
    else if number == 521 then Some (codes "MSG_MDS_FRAGMENTNOTIFY")
    else if number == 522 then Some (codes "MSG_MDS_OFFLOAD_TARGETS")
    else if number == 524 then Some (codes "MSG_MDS_DENTRYLINK")
    else if number == 525 then Some (codes "MSG_MDS_FINDINO")
    else if number == 526 then Some (codes "MSG_MDS_FINDINOREPLY")
    else if number == 527 then Some (codes "MSG_MDS_OPENINO")
    else if number == 528 then Some (codes "MSG_MDS_OPENINOREPLY")
    else if number == 768 then Some (codes "MSG_MDS_LOCK")
    else if number == 769 then Some (codes "MSG_MDS_INODEFILECAPS")
    else None

-- those of metadata servers that hand on directories or balance their load, as msg/Message.h has them
abbrev pub of_migration : ℕ → Option (List ℕ)
of_migration number =
    if number == 1097 then Some (codes "MSG_MDS_EXPORTDIRDISCOVER")
    else if number == 1104 then Some (codes "MSG_MDS_EXPORTDIRDISCOVERACK")
    else if number == 1105 then Some (codes "MSG_MDS_EXPORTDIRCANCEL")
    else if number == 1106 then Some (codes "MSG_MDS_EXPORTDIRPREP")
    else if number == 1107 then Some (codes "MSG_MDS_EXPORTDIRPREPACK")
    else if number == 1108 then Some (codes "MSG_MDS_EXPORTDIRWARNING")
    else if number == 1109 then Some (codes "MSG_MDS_EXPORTDIRWARNINGACK")
    else if number == 1110 then Some (codes "MSG_MDS_EXPORTDIR")
    else if number == 1111 then Some (codes "MSG_MDS_EXPORTDIRACK")
    else if number == 1112 then Some (codes "MSG_MDS_EXPORTDIRNOTIFY")
    else if number == 1113 then Some (codes "MSG_MDS_EXPORTDIRNOTIFYACK")
    else if number == 1120 then Some (codes "MSG_MDS_EXPORTDIRFINISH")
    else if number == 1136 then Some (codes "MSG_MDS_EXPORTCAPS")
    else if number == 1137 then Some (codes "MSG_MDS_EXPORTCAPSACK")
    else if number == 1280 then Some (codes "MSG_MDS_HEARTBEAT")
    else None

-- those of managers, as msg/Message.h has them
abbrev pub of_managers : ℕ → Option (List ℕ)
of_managers number =
    if number == 1792 then Some (codes "MSG_MGR_OPEN")
    else if number == 1793 then Some (codes "MSG_MGR_CONFIGURE")
    else if number == 1794 then Some (codes "MSG_MGR_REPORT")
    else if number == 1795 then Some (codes "MSG_MGR_BEACON")
    else if number == 1796 then Some (codes "MSG_MGR_MAP")
    else if number == 1797 then Some (codes "MSG_MGR_DIGEST")
    else if number == 1798 then Some (codes "MSG_MON_MGR_REPORT")
    else if number == 1799 then Some (codes "MSG_SERVICE_MAP")
    else if number == 1800 then Some (codes "MSG_MGR_CLOSE")
    else if number == 1801 then Some (codes "MSG_MGR_COMMAND")
    else if number == 1802 then Some (codes "MSG_MGR_COMMAND_REPLY")
    else None

abbrev pub or_else : Option (List ℕ) → List ℕ → List ℕ
or_else (Some name) other = name
or_else None other = other

-- the name of a message with this number; where the tables have none a dash
abbrev pub name_of_type : ℕ → List ℕ
name_of_type number =
    or_else (with_monitors number) (
    or_else (of_clients number) (
    or_else (of_monitors number) (
    or_else (of_osds number) (
    or_else (of_recovery number) (
    or_else (of_metadata_servers number) (
    or_else (of_migration number) (
    or_else (of_managers number) (codes "-"))))))))
