-- The words for the kinds of packets at which the switch may stop.
use Rattle.std.specs.Prelude.{ℕ, List, Option, Some, None, bytes_eq, if◌then◌else◌, codes}
use Rattle.far_base.specs.declared.plan.PassKind.{PassKind}
use Rattle.far_base.specs.declared.plan.PassKind.TheVariants.{GetReq, WriteReq, GetRep, WriteRep, Admit, Peek, Remove}
use Rattle.far_base.specs.declared.plan.PassKind.TheVariants.{SnapStart, SnapRead}

abbrev pub kind_name : PassKind → List ℕ
kind_name GetReq = codes "getreq"
kind_name WriteReq = codes "writereq"
kind_name GetRep = codes "getrep"
kind_name WriteRep = codes "writerep"
kind_name Admit = codes "admit"
kind_name Peek = codes "peek"
kind_name Remove = codes "remove"
kind_name SnapStart = codes "snapstart"
kind_name SnapRead = codes "snapread"

abbrev pub kind_of : List ℕ → Option PassKind
kind_of word = if bytes_eq word (codes "getreq") then Some GetReq
    else if bytes_eq word (codes "writereq") then Some WriteReq
    else if bytes_eq word (codes "getrep") then Some GetRep
    else if bytes_eq word (codes "writerep") then Some WriteRep
    else if bytes_eq word (codes "admit") then Some Admit
    else if bytes_eq word (codes "peek") then Some Peek
    else if bytes_eq word (codes "remove") then Some Remove
    else if bytes_eq word (codes "snapstart") then Some SnapStart
    else if bytes_eq word (codes "snapread") then Some SnapRead
    else None
