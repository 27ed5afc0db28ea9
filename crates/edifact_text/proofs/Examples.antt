-- Worked texts, read by computing.
use Rattle.std.proofs.Common.{◌≡◌, [], ◌∷◌, refl, Ok, Err, codes}
use Rattle.edifact_text.specs.declared.faults.Kind.TheVariants.{Baplie, Movins}
use Rattle.edifact_text.specs.declared.faults.EdiCode.TheVariants.{Truncated, BadUna, NoUnb, WrongType, SegmentCount, MessageRef, InterchangeCount, InterchangeRef, Trailing, EmptySegment}
use Rattle.edifact_text.specs.Interchange.{component}
use Rattle.edifact_text.specs.Rows.{is_text}
use Rattle.edifact_text.specs.Reading.{opened, segment_of}
use Rattle.edifact_text.specs.Faults.{IsMessage, IsFault}
use Rattle.edifact_text.proofs.OpenedLemmas.{message_is, fault_is}

empty_plan : opened Baplie (codes "UNB+UNOA:2+SHIP+PLAN+250101:1200+7'UNH+1+BAPLIE:D:95B:UN'UNT+2+1'UNZ+1+7'") ≡ Ok (record {
  mark = 46;
  segments = [];
})
unfolding opened segment_of component is_text
empty_plan = refl

other_kind : opened Movins (codes "UNB+UNOA:2+SHIP+PLAN+250101:1200+7'UNH+1+BAPLIE:D:95B:UN'UNT+2+1'UNZ+1+7'") ≡ Err (record {
  code = WrongType;
  place = 35;
})
unfolding opened segment_of component is_text
other_kind = refl

blanks_behind : opened Baplie (codes "UNB+UNOA:2+SHIP+PLAN+250101:1200+7'UNH+1+BAPLIE:D:95B:UN'UNT+2+1'UNZ+1+7'  ") ≡ Ok (record {
  mark = 46;
  segments = [];
})
unfolding opened segment_of component is_text
blanks_behind = refl

trailing : opened Baplie (codes "UNB+UNOA:2+SHIP+PLAN+250101:1200+7'UNH+1+BAPLIE:D:95B:UN'UNT+2+1'UNZ+1+7'X") ≡ Err (record {
  code = Trailing;
  place = 73;
})
unfolding opened segment_of component is_text
trailing = refl

cut : opened Baplie (codes "UNB+UNOA:2+SHIP+PLAN+250101:1200+7'UNH+1+BAPLIE:D:95B:UN'UNT+2+1'UNZ+1+7") ≡ Err (record { code = Truncated; place = 72 })
unfolding opened segment_of component is_text
cut = refl

count : opened Baplie (codes "UNB+UNOA:2+SHIP+PLAN+250101:1200+7'UNH+1+BAPLIE:D:95B:UN'UNT+3+1'UNZ+1+7'") ≡ Err (record {
  code = SegmentCount;
  place = 57;
})
unfolding opened segment_of component is_text
count = refl

message_reference : opened Baplie (codes "UNB+UNOA:2+SHIP+PLAN+250101:1200+7'UNH+1+BAPLIE:D:95B:UN'UNT+2+2'UNZ+1+7'") ≡ Err
    (record { code = MessageRef; place = 57 })
unfolding opened segment_of component is_text
message_reference = refl

interchange_count : opened Baplie (codes "UNB+UNOA:2+SHIP+PLAN+250101:1200+7'UNH+1+BAPLIE:D:95B:UN'UNT+2+1'UNZ+2+7'") ≡ Err
    (record { code = InterchangeCount; place = 65 })
unfolding opened segment_of component is_text
interchange_count = refl

interchange_reference : opened Baplie (codes "UNB+UNOA:2+SHIP+PLAN+250101:1200+7'UNH+1+BAPLIE:D:95B:UN'UNT+2+1'UNZ+1+8'") ≡ Err
    (record { code = InterchangeRef; place = 65 })
unfolding opened segment_of component is_text
interchange_reference = refl

-- A release character, undone; other service characters, another mark.
released : opened Movins (codes "UNA:+,? 'UNB+++++7'UNH+1+MOVINS:D:95B:UN'EQD+CN+AB?+CD'UNT+3+1'UNZ+1+7'")
    ≡ Ok (record { mark = 44; segments = record { number = 2; parts = (codes "EQD" ∷ []) ∷ (codes "CN" ∷ []) ∷ (codes "AB+CD" ∷ []) ∷ [] } ∷ [] })
unfolding opened segment_of component is_text
released = refl

other_characters : opened Baplie (codes "UNA|^,! ~UNB^UNOA|2^SHIP^PLAN^250101|1200^7~UNH^1^BAPLIE|D|95B|UN~UNT^2^1~UNZ^1^7~") ≡ Ok
    (record { mark = 44; segments = [] })
unfolding opened segment_of component is_text
other_characters = refl

bad_advice : opened Baplie (codes " UNA:+.+ '") ≡ Err (record { code = BadUna; place = 1 })
unfolding opened segment_of component is_text
bad_advice = refl

cut_advice : opened Baplie (codes " UNA:+.? ") ≡ Err (record { code = Truncated; place = 9 })
unfolding opened segment_of component is_text
cut_advice = refl

empty_tag : opened Baplie (codes "+X'") ≡ Err (record { code = EmptySegment; place = 0 })
unfolding opened segment_of component is_text
empty_tag = refl

no_terminator : opened Baplie (codes "XYZ") ≡ Err (record { code = Truncated; place = 3 })
unfolding opened segment_of component is_text
no_terminator = refl

another_tag : opened Baplie (codes " XYZ'") ≡ Err (record { code = NoUnb; place = 1 })
unfolding opened segment_of component is_text
another_tag = refl

-- By the law, the first of them is a message by the definition, and the cut one has that fault.
empty_plan_is : IsMessage Baplie (codes "UNB+UNOA:2+SHIP+PLAN+250101:1200+7'UNH+1+BAPLIE:D:95B:UN'UNT+2+1'UNZ+1+7'") 46 []
empty_plan_is = message_is Baplie (codes "UNB+UNOA:2+SHIP+PLAN+250101:1200+7'UNH+1+BAPLIE:D:95B:UN'UNT+2+1'UNZ+1+7'") (record { mark = 46; segments = [] }) empty_plan

cut_is : IsFault Baplie (codes "XYZ") (record { code = Truncated; place = 3 })
cut_is = fault_is Baplie (codes "XYZ") (record { code = Truncated; place = 3 }) no_terminator
