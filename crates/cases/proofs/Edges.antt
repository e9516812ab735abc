-- The edges of document 01, answered as the crate answers them.
use mathlib.Core.List.{[], ◌∷◌}
use mathlib.Core.Path.{refl}
use Rattle.cases.specs.Asked.{Answers, tell, ◌gets◌, B, O, C, T, refuses, gives}

-- BEGIN "/a/A.json", extends "/b/B.json", PATHS, key "k", target "t", END, BEGIN "/b/B.json", baseUrl "u", END
pub book_base_and_base_url :
    Answers "\u{1}\0\0\t\0\u{8}\t\0\t\0\n\u{b}\u{12}\0\u{1}\0\u{c}\u{13}\0\u{1}\0\u{14}\u{1}\t\0\t\0\t\u{14}\0\u{1}\0\u{14}" "/a/A.json/b/B.jsonktu"
    ((B "/a/A" gets gives 0 1 "baseUrl=/a/u\nbase=/b/u\nkey=k\ntarget=/b/u/t\n")
    ∷ [])
unfolding tell
book_base_and_base_url = refl

-- BEGIN "/a/A.json", extends "/b/B.json", END, BEGIN "/b/B.json", END, BEGIN "/a/C.json", extends "/b/B.json", PATHS, END
pub book_base_of_parent :
    Answers "\u{1}\0\0\t\0\u{8}\t\0\t\0\u{14}\u{1}\t\0\t\0\u{14}\u{1}\u{12}\0\t\0\u{8}\t\0\t\0\n\u{14}" "/a/A.json/b/B.json/a/C.json"
    ((B "/a/A" gets gives 0 1 "base=/b\n")
    ∷ (B "/a/C" gets gives 2 1 "base=/a\npaths\n")
    ∷ [])
unfolding tell
book_base_of_parent = refl

-- BEGIN "/p/tsconfig.json", INCLUDE, include "**/*.vue", EXCLUDE, exclude "src", END
pub book_claims_exclude_gate :
    Answers "\u{1}\0\0\u{10}\0\u{4}\u{5}\u{10}\0\u{8}\0\u{6}\u{7}\u{18}\0\u{3}\0\u{14}" "/p/tsconfig.json**/*.vuesrc"
    ((O "/p/src/a.vue" gets gives 0 0 "")
    ∷ (O "/p/src/a.ts" gets gives 65535 65535 "")
    ∷ [])
unfolding tell
book_claims_exclude_gate = refl

-- BEGIN "/1/tsconfig.json", INCLUDE, include "x.", include ".ts", include "..ts", include "*.TS", END, BEGIN "/2/tsconfig.json", END, BEGIN
-- "/3/tsconfig.json", FILES, file "f.js", INCLUDE, include "*.js", END, BEGIN "/4/tsconfig.json", INCLUDE, include "*.js", flag 8 1, END
pub book_claims_extensions :
    Answers "\u{1}\0\0\u{10}\0\u{4}\u{5}\u{10}\0\u{2}\0\u{5}\u{12}\0\u{3}\0\u{5}\u{15}\0\u{4}\0\u{5}\u{19}\0\u{4}\0\u{14}\u{1}\u{1d}\0\u{10}\0\u{14}\u{1}-\0\u{10}\0\u{2}\u{3}=\0\u{4}\0\u{4}\u{5}A\0\u{4}\0\u{14}\u{1}E\0\u{10}\0\u{4}\u{5}A\0\u{4}\0\u{12}\u{8}\u{1}\u{14}" "/1/tsconfig.jsonx..ts..ts*.TS/2/tsconfig.json/3/tsconfig.jsonf.js*.js/4/tsconfig.json"
    ((O "/1/x." gets gives 0 0 "")
    ∷ (O "/1/.ts" gets gives 65535 65535 "")
    ∷ (O "/1/..ts" gets gives 0 0 "")
    ∷ (O "/1/x.TS" gets gives 0 0 "")
    ∷ (O "/2/x." gets gives 65535 65535 "")
    ∷ (O "/2/.ts" gets gives 65535 65535 "")
    ∷ (O "/2/..ts" gets gives 1 1 "")
    ∷ (O "/2/x.TS" gets gives 65535 65535 "")
    ∷ (O "/2/x.mts" gets gives 1 1 "")
    ∷ (O "/2/x.d.cts" gets gives 1 1 "")
    ∷ (O "/2/x.tsx" gets gives 1 1 "")
    ∷ (O "/2/x.js" gets gives 65535 65535 "")
    ∷ (O "/3/a.js" gets gives 65535 65535 "")
    ∷ (O "/3/f.js" gets gives 2 2 "")
    ∷ (O "/4/a.js" gets gives 3 3 "")
    ∷ [])
unfolding tell
book_claims_extensions = refl

-- BEGIN "/p/tsconfig.json", FILES, file "/p/./k.ts", file "//p/l.ts", file "/p/m.ts/", END, BEGIN "/q/tsconfig.json", INCLUDE, include "/q/./k.ts",
-- include "//q/l.ts", include "/q/m.ts/", END, BEGIN "/tsconfig.json", FILES, file ".", END
pub book_claims_files :
    Answers "\u{1}\0\0\u{10}\0\u{2}\u{3}\u{10}\0\t\0\u{3}\u{19}\0\u{8}\0\u{3}!\0\u{8}\0\u{14}\u{1})\0\u{10}\0\u{4}\u{5}9\0\t\0\u{5}B\0\u{8}\0\u{5}J\0\u{8}\0\u{14}\u{1}R\0\u{e}\0\u{2}\u{3}`\0\u{1}\0\u{14}" "/p/tsconfig.json/p/./k.ts//p/l.ts/p/m.ts//q/tsconfig.json/q/./k.ts//q/l.ts/q/m.ts//tsconfig.json."
    ((O "/p/k.ts" gets gives 0 0 "")
    ∷ (O "/p/l.ts" gets gives 0 0 "")
    ∷ (O "/p/m.ts" gets gives 0 0 "")
    ∷ (O "/q/k.ts" gets gives 65535 65535 "")
    ∷ (O "/q/l.ts" gets gives 65535 65535 "")
    ∷ (O "/q/m.ts" gets gives 65535 65535 "")
    ∷ [])
unfolding tell
book_claims_files = refl

-- BEGIN "/1/tsconfig.json", INCLUDE, include "x.*", END, BEGIN "/2/tsconfig.json", INCLUDE, include "x.y", include "a?", include "b*", END, BEGIN
-- "/3/tsconfig.json", INCLUDE, include "x", END
pub book_claims_last_piece :
    Answers "\u{1}\0\0\u{10}\0\u{4}\u{5}\u{10}\0\u{3}\0\u{14}\u{1}\u{13}\0\u{10}\0\u{4}\u{5}#\0\u{3}\0\u{5}&\0\u{2}\0\u{5}(\0\u{2}\0\u{14}\u{1}*\0\u{10}\0\u{4}\u{5}:\0\u{1}\0\u{14}" "/1/tsconfig.jsonx.*/2/tsconfig.jsonx.ya?b*/3/tsconfig.jsonx"
    ((O "/1/x.*" gets gives 0 0 "")
    ∷ (O "/1/x.vue" gets gives 65535 65535 "")
    ∷ (O "/1/x.ts" gets gives 0 0 "")
    ∷ (O "/2/x.y/a.ts" gets gives 65535 65535 "")
    ∷ (O "/2/ab/a.ts" gets gives 65535 65535 "")
    ∷ (O "/2/b/a.ts" gets gives 65535 65535 "")
    ∷ (O "/2/b.ts" gets gives 1 1 "")
    ∷ (O "/3/x/a.ts" gets gives 2 2 "")
    ∷ (O "/3/x/y/a.ts" gets gives 2 2 "")
    ∷ (O "/3/x" gets gives 65535 65535 "")
    ∷ [])
unfolding tell
book_claims_last_piece = refl

-- BEGIN "/a/tsconfig.json", reference "./r.json", END, BEGIN "/a/r.json", INCLUDE, include "s", END, BEGIN "/b/tsconfig.json", INCLUDE, include "none",
-- reference "../a/q.json", END, BEGIN "/a/q.json", INCLUDE, include "/b/t", END
pub book_claims_references :
    Answers "\u{1}\0\0\u{10}\0\r\u{10}\0\u{8}\0\u{14}\u{1}\u{18}\0\t\0\u{4}\u{5}!\0\u{1}\0\u{14}\u{1}\"\0\u{10}\0\u{4}\u{5}2\0\u{4}\0\r6\0\u{b}\0\u{14}\u{1}A\0\t\0\u{4}\u{5}J\0\u{4}\0\u{14}" "/a/tsconfig.json./r.json/a/r.jsons/b/tsconfig.jsonnone../a/q.json/a/q.json/b/t"
    ((O "/a/s/x.ts" gets gives 0 1 "")
    ∷ (O "/a/x.ts" gets gives 0 0 "")
    ∷ (O "/b/t/x.ts" gets gives 2 3 "")
    ∷ (O "/b/x.ts" gets gives 65535 65535 "")
    ∷ [])
unfolding tell
book_claims_references = refl

-- BEGIN "/tsconfig.json", FILES, file ".", END
pub book_claims_root :
    Answers "\u{1}\0\0\u{e}\0\u{2}\u{3}\u{e}\0\u{1}\0\u{14}" "/tsconfig.json."
    ((O "/" gets gives 0 0 "")
    ∷ (O "/x.ts" gets gives 65535 65535 "")
    ∷ [])
unfolding tell
book_claims_root = refl

-- BEGIN "/a/tsconfig.json", FILES, INCLUDE, reference "./r.json", END, BEGIN "/a/r.json", INCLUDE, include "b", END, BEGIN "/a/b/tsconfig.json",
-- INCLUDE, include "nothing", reference "../tsconfig.json", END
pub book_claims_stores :
    Answers "\u{1}\0\0\u{10}\0\u{2}\u{4}\r\u{10}\0\u{8}\0\u{14}\u{1}\u{18}\0\t\0\u{4}\u{5}!\0\u{1}\0\u{14}\u{1}\"\0\u{12}\0\u{4}\u{5}4\0\u{7}\0\r;\0\u{10}\0\u{14}" "/a/tsconfig.json./r.json/a/r.jsonb/a/b/tsconfig.jsonnothing../tsconfig.json"
    ((O "/a/b/x.ts" gets gives 0 1 "")
    ∷ [])
unfolding tell
book_claims_stores = refl

-- BEGIN "/a/b/tsconfig.json", INCLUDE, include "none", END, BEGIN "/a/tsconfig.json", END, BEGIN "/a/x.ts/tsconfig.json", FILES, file ".", END, BEGIN
-- "/tsconfig.json", extends "", END
pub book_claims_walk :
    Answers "\u{1}\0\0\u{12}\0\u{4}\u{5}\u{12}\0\u{4}\0\u{14}\u{1}\u{16}\0\u{10}\0\u{14}\u{1}&\0\u{15}\0\u{2}\u{3};\0\u{1}\0\u{14}\u{1}<\0\u{e}\0\u{8}J\0\0\0\u{14}" "/a/b/tsconfig.jsonnone/a/tsconfig.json/a/x.ts/tsconfig.json./tsconfig.json"
    ((O "/a/b/x.ts" gets gives 1 1 "")
    ∷ (O "/a/x.ts" gets gives 2 2 "")
    ∷ (O "/a/b/c" gets refuses 11 3)
    ∷ (O "/z.ts" gets refuses 11 3)
    ∷ [])
unfolding tell
book_claims_walk = refl

-- no commands
pub book_empty_book :
    Answers "" ""
    ((B "/" gets refuses 8 65535)
    ∷ (O "/" gets gives 65535 65535 "")
    ∷ (O "/a/b.ts" gets gives 65535 65535 "")
    ∷ (B "" gets refuses 7 0)
    ∷ [])
unfolding tell
book_empty_book = refl

-- BEGIN "/a/A.json", extends "./nope", extends "pkg", END
pub book_loading_entries_first :
    Answers "\u{1}\0\0\t\0\u{8}\t\0\u{6}\0\u{8}\u{f}\0\u{3}\0\u{14}" "/a/A.json./nopepkg"
    ((B "/a/A" gets refuses 12 0)
    ∷ [])
unfolding tell
book_loading_entries_first = refl

-- BEGIN "/a/A.json", extends "pkg", extends "", END, BEGIN "/a/B.json", extends "", extends "pkg", END
pub book_loading_entries_in_order :
    Answers "\u{1}\0\0\t\0\u{8}\t\0\u{3}\0\u{8}\u{c}\0\0\0\u{14}\u{1}\u{c}\0\t\0\u{8}\u{c}\0\0\0\u{8}\t\0\u{3}\0\u{14}" "/a/A.jsonpkg/a/B.json"
    ((B "/a/A" gets refuses 12 0)
    ∷ (B "/a/B" gets refuses 11 1)
    ∷ [])
unfolding tell
book_loading_entries_in_order = refl

-- BEGIN "/a/b.json", END, BEGIN "/a/b/c.json", END
pub book_loading_folder_hides :
    Answers "\u{1}\0\0\t\0\u{14}\u{1}\t\0\u{b}\0\u{14}" "/a/b.json/a/b/c.json"
    ((B "/a/b" gets refuses 8 65535)
    ∷ (B "/a/b.json" gets gives 0 0 "base=/a\n")
    ∷ [])
unfolding tell
book_loading_folder_hides = refl

-- BEGIN "/l/00a.json", extends "./01a", extends "./01b", END, BEGIN "/l/00b.json", extends "./01a.json", extends "./01b.json", END, BEGIN "/l/01a.json",
-- extends "./02a", extends "./02b", END, BEGIN "/l/01b.json", extends "./02a.json", extends "./02b.json", END, BEGIN "/l/02a.json", extends "./03a",
-- extends "./03b", END, BEGIN "/l/02b.json", extends "./03a.json", extends "./03b.json", END, BEGIN "/l/03a.json", extends "./04a", extends "./04b",
-- END, BEGIN "/l/03b.json", extends "./04a.json", extends "./04b.json", END, BEGIN "/l/04a.json", extends "./05a", extends "./05b", END, BEGIN
-- "/l/04b.json", extends "./05a.json", extends "./05b.json", END, BEGIN "/l/05a.json", extends "./06a", extends "./06b", END, BEGIN "/l/05b.json",
-- extends "./06a.json", extends "./06b.json", END, BEGIN "/l/06a.json", extends "./07a", extends "./07b", END, BEGIN "/l/06b.json", extends
-- "./07a.json", extends "./07b.json", END, BEGIN "/l/07a.json", extends "./08a", extends "./08b", END, BEGIN "/l/07b.json", extends "./08a.json",
-- extends "./08b.json", END, BEGIN "/l/08a.json", extends "./09a", extends "./09b", END, BEGIN "/l/08b.json", extends "./09a.json", extends
-- "./09b.json", END, BEGIN "/l/09a.json", extends "./10a", extends "./10b", END, BEGIN "/l/09b.json", extends "./10a.json", extends "./10b.json", END,
-- BEGIN "/l/10a.json", extends "./11a", extends "./11b", END, BEGIN "/l/10b.json", extends "./11a.json", extends "./11b.json", END, BEGIN "/l/11a.json",
-- extends "./12a", extends "./12b", END, BEGIN "/l/11b.json", extends "./12a.json", extends "./12b.json", END, BEGIN "/l/12a.json", extends "./13a",
-- extends "./13b", END, BEGIN "/l/12b.json", extends "./13a.json", extends "./13b.json", END, BEGIN "/l/13a.json", extends "./14a", extends "./14b",
-- END, BEGIN "/l/13b.json", extends "./14a.json", extends "./14b.json", END, BEGIN "/l/14a.json", extends "./15a", extends "./15b", END, BEGIN
-- "/l/14b.json", extends "./15a.json", extends "./15b.json", END, BEGIN "/l/15a.json", extends "./16a", extends "./16b", END, BEGIN "/l/15b.json",
-- extends "./16a.json", extends "./16b.json", END, BEGIN "/l/16a.json", extends "./17a", extends "./17b", END, BEGIN "/l/16b.json", extends
-- "./17a.json", extends "./17b.json", END, BEGIN "/l/17a.json", extends "./18a", extends "./18b", END, BEGIN "/l/17b.json", extends "./18a.json",
-- extends "./18b.json", END, BEGIN "/l/18a.json", extends "./19a", extends "./19b", END, BEGIN "/l/18b.json", extends "./19a.json", extends
-- "./19b.json", END, BEGIN "/l/19a.json", extends "./20a", extends "./20b", END, BEGIN "/l/19b.json", extends "./20a.json", extends "./20b.json", END,
-- BEGIN "/l/20a.json", extends "./21a", extends "./21b", END, BEGIN "/l/20b.json", extends "./21a.json", extends "./21b.json", END, BEGIN "/l/21a.json",
-- extends "./22a", extends "./22b", END, BEGIN "/l/21b.json", extends "./22a.json", extends "./22b.json", END, BEGIN "/l/22a.json", extends "./23a",
-- extends "./23b", END, BEGIN "/l/22b.json", extends "./23a.json", extends "./23b.json", END, BEGIN "/l/23a.json", extends "./24a", extends "./24b",
-- END, BEGIN "/l/23b.json", extends "./24a.json", extends "./24b.json", END, BEGIN "/l/24a.json", extends "./25a", extends "./25b", END, BEGIN
-- "/l/24b.json", extends "./25a.json", extends "./25b.json", END, BEGIN "/l/25a.json", extends "./26a", extends "./26b", END, BEGIN "/l/25b.json",
-- extends "./26a.json", extends "./26b.json", END, BEGIN "/l/26a.json", extends "./27a", extends "./27b", END, BEGIN "/l/26b.json", extends
-- "./27a.json", extends "./27b.json", END, BEGIN "/l/27a.json", extends "./28a", extends "./28b", END, BEGIN "/l/27b.json", extends "./28a.json",
-- extends "./28b.json", END, BEGIN "/l/28a.json", extends "./29a", extends "./29b", END, BEGIN "/l/28b.json", extends "./29a.json", extends
-- "./29b.json", END, BEGIN "/l/29a.json", extends "./30a", extends "./30b", END, BEGIN "/l/29b.json", extends "./30a.json", extends "./30b.json", END,
-- BEGIN "/l/30a.json", flag 4 0, END, BEGIN "/l/30b.json", flag 4 1, END
pub book_loading_ladder :
    Answers "\u{1}\0\0\u{b}\0\u{8}\u{b}\0\u{5}\0\u{8}\u{10}\0\u{5}\0\u{14}\u{1}\u{15}\0\u{b}\0\u{8} \0\n\0\u{8}*\0\n\0\u{14}\u{1}4\0\u{b}\0\u{8}?\0\u{5}\0\u{8}D\0\u{5}\0\u{14}\u{1}I\0\u{b}\0\u{8}T\0\n\0\u{8}^\0\n\0\u{14}\u{1}h\0\u{b}\0\u{8}s\0\u{5}\0\u{8}x\0\u{5}\0\u{14}\u{1}}\0\u{b}\0\u{8}\u{88}\0\n\0\u{8}\u{92}\0\n\0\u{14}\u{1}\u{9c}\0\u{b}\0\u{8}§\0\u{5}\0\u{8}¬\0\u{5}\0\u{14}\u{1}±\0\u{b}\0\u{8}¼\0\n\0\u{8}Æ\0\n\0\u{14}\u{1}Ð\0\u{b}\0\u{8}Û\0\u{5}\0\u{8}à\0\u{5}\0\u{14}\u{1}å\0\u{b}\0\u{8}ð\0\n\0\u{8}ú\0\n\0\u{14}\u{1}\u{4}\u{1}\u{b}\0\u{8}\u{f}\u{1}\u{5}\0\u{8}\u{14}\u{1}\u{5}\0\u{14}\u{1}\u{19}\u{1}\u{b}\0\u{8}$\u{1}\n\0\u{8}.\u{1}\n\0\u{14}\u{1}8\u{1}\u{b}\0\u{8}C\u{1}\u{5}\0\u{8}H\u{1}\u{5}\0\u{14}\u{1}M\u{1}\u{b}\0\u{8}X\u{1}\n\0\u{8}b\u{1}\n\0\u{14}\u{1}l\u{1}\u{b}\0\u{8}w\u{1}\u{5}\0\u{8}|\u{1}\u{5}\0\u{14}\u{1}\u{81}\u{1}\u{b}\0\u{8}\u{8c}\u{1}\n\0\u{8}\u{96}\u{1}\n\0\u{14}\u{1}\u{a0}\u{1}\u{b}\0\u{8}«\u{1}\u{5}\0\u{8}°\u{1}\u{5}\0\u{14}\u{1}µ\u{1}\u{b}\0\u{8}À\u{1}\n\0\u{8}Ê\u{1}\n\0\u{14}\u{1}Ô\u{1}\u{b}\0\u{8}ß\u{1}\u{5}\0\u{8}ä\u{1}\u{5}\0\u{14}\u{1}é\u{1}\u{b}\0\u{8}ô\u{1}\n\0\u{8}þ\u{1}\n\0\u{14}\u{1}\u{8}\u{2}\u{b}\0\u{8}\u{13}\u{2}\u{5}\0\u{8}\u{18}\u{2}\u{5}\0\u{14}\u{1}\u{1d}\u{2}\u{b}\0\u{8}(\u{2}\n\0\u{8}2\u{2}\n\0\u{14}\u{1}<\u{2}\u{b}\0\u{8}G\u{2}\u{5}\0\u{8}L\u{2}\u{5}\0\u{14}\u{1}Q\u{2}\u{b}\0\u{8}\\\u{2}\n\0\u{8}f\u{2}\n\0\u{14}\u{1}p\u{2}\u{b}\0\u{8}{\u{2}\u{5}\0\u{8}\u{80}\u{2}\u{5}\0\u{14}\u{1}\u{85}\u{2}\u{b}\0\u{8}\u{90}\u{2}\n\0\u{8}\u{9a}\u{2}\n\0\u{14}\u{1}¤\u{2}\u{b}\0\u{8}¯\u{2}\u{5}\0\u{8}´\u{2}\u{5}\0\u{14}\u{1}¹\u{2}\u{b}\0\u{8}Ä\u{2}\n\0\u{8}Î\u{2}\n\0\u{14}\u{1}Ø\u{2}\u{b}\0\u{8}ã\u{2}\u{5}\0\u{8}è\u{2}\u{5}\0\u{14}\u{1}í\u{2}\u{b}\0\u{8}ø\u{2}\n\0\u{8}\u{2}\u{3}\n\0\u{14}\u{1}\u{c}\u{3}\u{b}\0\u{8}\u{17}\u{3}\u{5}\0\u{8}\u{1c}\u{3}\u{5}\0\u{14}\u{1}!\u{3}\u{b}\0\u{8},\u{3}\n\0\u{8}6\u{3}\n\0\u{14}\u{1}@\u{3}\u{b}\0\u{8}K\u{3}\u{5}\0\u{8}P\u{3}\u{5}\0\u{14}\u{1}U\u{3}\u{b}\0\u{8}`\u{3}\n\0\u{8}j\u{3}\n\0\u{14}\u{1}t\u{3}\u{b}\0\u{8}\u{7f}\u{3}\u{5}\0\u{8}\u{84}\u{3}\u{5}\0\u{14}\u{1}\u{89}\u{3}\u{b}\0\u{8}\u{94}\u{3}\n\0\u{8}\u{9e}\u{3}\n\0\u{14}\u{1}¨\u{3}\u{b}\0\u{8}³\u{3}\u{5}\0\u{8}¸\u{3}\u{5}\0\u{14}\u{1}½\u{3}\u{b}\0\u{8}È\u{3}\n\0\u{8}Ò\u{3}\n\0\u{14}\u{1}Ü\u{3}\u{b}\0\u{8}ç\u{3}\u{5}\0\u{8}ì\u{3}\u{5}\0\u{14}\u{1}ñ\u{3}\u{b}\0\u{8}ü\u{3}\n\0\u{8}\u{6}\u{4}\n\0\u{14}\u{1}\u{10}\u{4}\u{b}\0\u{8}\u{1b}\u{4}\u{5}\0\u{8} \u{4}\u{5}\0\u{14}\u{1}%\u{4}\u{b}\0\u{8}0\u{4}\n\0\u{8}:\u{4}\n\0\u{14}\u{1}D\u{4}\u{b}\0\u{8}O\u{4}\u{5}\0\u{8}T\u{4}\u{5}\0\u{14}\u{1}Y\u{4}\u{b}\0\u{8}d\u{4}\n\0\u{8}n\u{4}\n\0\u{14}\u{1}x\u{4}\u{b}\0\u{8}\u{83}\u{4}\u{5}\0\u{8}\u{88}\u{4}\u{5}\0\u{14}\u{1}\u{8d}\u{4}\u{b}\0\u{8}\u{98}\u{4}\n\0\u{8}¢\u{4}\n\0\u{14}\u{1}¬\u{4}\u{b}\0\u{8}·\u{4}\u{5}\0\u{8}¼\u{4}\u{5}\0\u{14}\u{1}Á\u{4}\u{b}\0\u{8}Ì\u{4}\n\0\u{8}Ö\u{4}\n\0\u{14}\u{1}à\u{4}\u{b}\0\u{8}ë\u{4}\u{5}\0\u{8}ð\u{4}\u{5}\0\u{14}\u{1}õ\u{4}\u{b}\0\u{8}\0\u{5}\n\0\u{8}\n\u{5}\n\0\u{14}\u{1}\u{14}\u{5}\u{b}\0\u{8}\u{1f}\u{5}\u{5}\0\u{8}$\u{5}\u{5}\0\u{14}\u{1})\u{5}\u{b}\0\u{8}4\u{5}\n\0\u{8}>\u{5}\n\0\u{14}\u{1}H\u{5}\u{b}\0\u{8}S\u{5}\u{5}\0\u{8}X\u{5}\u{5}\0\u{14}\u{1}]\u{5}\u{b}\0\u{8}h\u{5}\n\0\u{8}r\u{5}\n\0\u{14}\u{1}|\u{5}\u{b}\0\u{8}\u{87}\u{5}\u{5}\0\u{8}\u{8c}\u{5}\u{5}\0\u{14}\u{1}\u{91}\u{5}\u{b}\0\u{8}\u{9c}\u{5}\n\0\u{8}¦\u{5}\n\0\u{14}\u{1}°\u{5}\u{b}\0\u{8}»\u{5}\u{5}\0\u{8}À\u{5}\u{5}\0\u{14}\u{1}Å\u{5}\u{b}\0\u{8}Ð\u{5}\n\0\u{8}Ú\u{5}\n\0\u{14}\u{1}ä\u{5}\u{b}\0\u{8}ï\u{5}\u{5}\0\u{8}ô\u{5}\u{5}\0\u{14}\u{1}ù\u{5}\u{b}\0\u{8}\u{4}\u{6}\n\0\u{8}\u{e}\u{6}\n\0\u{14}\u{1}\u{18}\u{6}\u{b}\0\u{12}\u{4}\0\u{14}\u{1}#\u{6}\u{b}\0\u{12}\u{4}\u{1}\u{14}" "/l/00a.json./01a./01b/l/00b.json./01a.json./01b.json/l/01a.json./02a./02b/l/01b.json./02a.json./02b.json/l/02a.json./03a./03b/l/02b.json./03a.json./03b.json/l/03a.json./04a./04b/l/03b.json./04a.json./04b.json/l/04a.json./05a./05b/l/04b.json./05a.json./05b.json/l/05a.json./06a./06b/l/05b.json./06a.json./06b.json/l/06a.json./07a./07b/l/06b.json./07a.json./07b.json/l/07a.json./08a./08b/l/07b.json./08a.json./08b.json/l/08a.json./09a./09b/l/08b.json./09a.json./09b.json/l/09a.json./10a./10b/l/09b.json./10a.json./10b.json/l/10a.json./11a./11b/l/10b.json./11a.json./11b.json/l/11a.json./12a./12b/l/11b.json./12a.json./12b.json/l/12a.json./13a./13b/l/12b.json./13a.json./13b.json/l/13a.json./14a./14b/l/13b.json./14a.json./14b.json/l/14a.json./15a./15b/l/14b.json./15a.json./15b.json/l/15a.json./16a./16b/l/15b.json./16a.json./16b.json/l/16a.json./17a./17b/l/16b.json./17a.json./17b.json/l/17a.json./18a./18b/l/17b.json./18a.json./18b.json/l/18a.json./19a./19b/l/18b.json./19a.json./19b.json/l/19a.json./20a./20b/l/19b.json./20a.json./20b.json/l/20a.json./21a./21b/l/20b.json./21a.json./21b.json/l/21a.json./22a./22b/l/21b.json./22a.json./22b.json/l/22a.json./23a./23b/l/22b.json./23a.json./23b.json/l/23a.json./24a./24b/l/23b.json./24a.json./24b.json/l/24a.json./25a./25b/l/24b.json./25a.json./25b.json/l/25a.json./26a./26b/l/25b.json./26a.json./26b.json/l/26a.json./27a./27b/l/26b.json./27a.json./27b.json/l/27a.json./28a./28b/l/27b.json./28a.json./28b.json/l/28a.json./29a./29b/l/28b.json./29a.json./29b.json/l/29a.json./30a./30b/l/29b.json./30a.json./30b.json/l/30a.json/l/30b.json"
    ((B "/l/00a" gets gives 0 118 "base=/l\nflag 4=1\n")
    ∷ [])
unfolding tell
book_loading_ladder = refl

-- BEGIN "/a/A.json", extends "./n1", extends "./B", END, BEGIN "/a/B.json", extends "./n2", END
pub book_loading_last_first :
    Answers "\u{1}\0\0\t\0\u{8}\t\0\u{4}\0\u{8}\r\0\u{3}\0\u{14}\u{1}\u{10}\0\t\0\u{8}\u{19}\0\u{4}\0\u{14}" "/a/A.json./n1./B/a/B.json./n2"
    ((B "/a/A" gets refuses 8 1)
    ∷ [])
unfolding tell
book_loading_last_first = refl

-- BEGIN "/a/A.json", extends "./B", extends "./C", extends "./B.json", END, BEGIN "/a/B.json", extends "./D", END, BEGIN "/a/C.json", extends
-- "./D.json", END, BEGIN "/a/D.json", END
pub book_loading_merges :
    Answers "\u{1}\0\0\t\0\u{8}\t\0\u{3}\0\u{8}\u{c}\0\u{3}\0\u{8}\u{f}\0\u{8}\0\u{14}\u{1}\u{17}\0\t\0\u{8} \0\u{3}\0\u{14}\u{1}#\0\t\0\u{8},\0\u{8}\0\u{14}\u{1}4\0\t\0\u{14}" "/a/A.json./B./C./B.json/a/B.json./D/a/C.json./D.json/a/D.json"
    ((B "/a/A" gets gives 0 5 "base=/a\n")
    ∷ [])
unfolding tell
book_loading_merges = refl

-- BEGIN "/a/A.json", reference "./r.json", END, BEGIN "/a/r.json", extends "./q.json", END, BEGIN "/a/q.json", extends "./r.json", END
pub book_loading_reference_chain :
    Answers "\u{1}\0\0\t\0\r\t\0\u{8}\0\u{14}\u{1}\u{11}\0\t\0\u{8}\u{1a}\0\u{8}\0\u{14}\u{1}\"\0\t\0\u{8}\t\0\u{8}\0\u{14}" "/a/A.json./r.json/a/r.json./q.json/a/q.json"
    ((B "/a/A" gets refuses 9 2)
    ∷ (B "/a/r" gets refuses 9 1)
    ∷ (B "/a/q" gets refuses 9 2)
    ∷ [])
unfolding tell
book_loading_reference_chain = refl

-- BEGIN "/a/A.json", reference "./r.json", flag 3 1, END, BEGIN "/a/r.json", extends "./A.json", END
pub book_loading_reference_extends_asked :
    Answers "\u{1}\0\0\t\0\r\t\0\u{8}\0\u{12}\u{3}\u{1}\u{14}\u{1}\u{11}\0\t\0\u{8}\u{1a}\0\u{8}\0\u{14}" "/a/A.json./r.json/a/r.json./A.json"
    ((B "/a/A" gets gives 0 0 "base=/a\nreference=./r.json\nflag 3=1\n")
    ∷ (B "/a/r" gets gives 1 1 "base=/a\nflag 3=1\n")
    ∷ [])
unfolding tell
book_loading_reference_extends_asked = refl

-- BEGIN "/a/A.json", reference "./B.json", END, BEGIN "/a/B.json", reference "./none", END
pub book_loading_references_of_references :
    Answers "\u{1}\0\0\t\0\r\t\0\u{8}\0\u{14}\u{1}\u{11}\0\t\0\r\u{1a}\0\u{6}\0\u{14}" "/a/A.json./B.json/a/B.json./none"
    ((B "/a/A" gets gives 0 0 "base=/a\nreference=./B.json\n")
    ∷ (B "/a/B" gets refuses 8 1)
    ∷ [])
unfolding tell
book_loading_references_of_references = refl

-- BEGIN "/1/tsconfig.json", reference ".", END, BEGIN "/2/tsconfig.json", reference "./tsconfig", END, BEGIN "/3/tsconfig.json", reference "../3", END,
-- BEGIN "/4/tsconfig.json", reference "/4", END
pub book_loading_self :
    Answers "\u{1}\0\0\u{10}\0\r\u{10}\0\u{1}\0\u{14}\u{1}\u{11}\0\u{10}\0\r!\0\n\0\u{14}\u{1}+\0\u{10}\0\r;\0\u{4}\0\u{14}\u{1}?\0\u{10}\0\rO\0\u{2}\0\u{14}" "/1/tsconfig.json./2/tsconfig.json./tsconfig/3/tsconfig.json../3/4/tsconfig.json/4"
    ((B "/1" gets refuses 10 0)
    ∷ (B "/2" gets refuses 10 1)
    ∷ (B "/3" gets refuses 10 2)
    ∷ (B "/4" gets refuses 10 3)
    ∷ [])
unfolding tell
book_loading_self = refl

-- BEGIN "/p/tsconfig.json", extends "./b", reference ".", END, BEGIN "/p/b.json", reference "./nope", END
pub book_loading_self_before_entries :
    Answers "\u{1}\0\0\u{10}\0\u{8}\u{10}\0\u{3}\0\r\u{13}\0\u{1}\0\u{14}\u{1}\u{14}\0\t\0\r\u{1d}\0\u{6}\0\u{14}" "/p/tsconfig.json./b./p/b.json./nope"
    ((B "/p" gets refuses 10 0)
    ∷ [])
unfolding tell
book_loading_self_before_entries = refl

-- BEGIN "/p/tsconfig.json", baseUrl "u", END
pub book_mapping_absolute :
    Answers "\u{1}\0\0\u{10}\0\t\u{10}\0\u{1}\0\u{14}" "/p/tsconfig.jsonu"
    ((C "/p" "/abs/x" gets gives 1 0 "\u{6}\0/abs/x")
    ∷ (C "/p" "" gets gives 1 0 "\0\0")
    ∷ [])
unfolding tell
book_mapping_absolute = refl

-- BEGIN "/p/tsconfig.json", PATHS, key "a*c", target "1/*", key "a*", target "2/*", END
pub book_mapping_equal_prefix :
    Answers "\u{1}\0\0\u{10}\0\n\u{b}\u{10}\0\u{3}\0\u{c}\u{13}\0\u{3}\0\u{b}\u{16}\0\u{2}\0\u{c}\u{18}\0\u{3}\0\u{14}" "/p/tsconfig.jsona*c1/*a*2/*"
    ((C "/p" "abc" gets gives 1 0 "\u{6}\0/p/1/b")
    ∷ (C "/p" "abd" gets gives 1 0 "\u{7}\0/p/2/bd")
    ∷ [])
unfolding tell
book_mapping_equal_prefix = refl

-- BEGIN "/p/tsconfig.json", baseUrl "u", PATHS, key "k", key "w/*", key "*", target "t/*", key "j", target "1", target "2", END
pub book_mapping_no_targets :
    Answers "\u{1}\0\0\u{10}\0\t\u{10}\0\u{1}\0\n\u{b}\u{11}\0\u{1}\0\u{b}\u{12}\0\u{3}\0\u{b}\u{15}\0\u{1}\0\u{c}\u{16}\0\u{3}\0\u{b}\u{19}\0\u{1}\0\u{c}\u{1a}\0\u{1}\0\u{c}\u{1b}\0\u{1}\0\u{14}" "/p/tsconfig.jsonukw/**t/*j12"
    ((C "/p" "k" gets gives 1 0 "\u{6}\0/p/u/k")
    ∷ (C "/p" "w/x" gets gives 1 0 "\u{8}\0/p/u/w/x")
    ∷ (C "/p" "z" gets gives 1 0 "\u{8}\0/p/u/t/z")
    ∷ (C "/p" "j" gets gives 2 0 "\u{6}\0/p/u/1\u{6}\0/p/u/2")
    ∷ (T "/p" "/p" "j" gets gives 3 0 "\u{6}\0/p/u/1\u{6}\0/p/u/2\u{6}\0/p/u/j")
    ∷ (T "/p" "/p" "k" gets gives 1 0 "\u{6}\0/p/u/k")
    ∷ [])
unfolding tell
book_mapping_no_targets = refl

-- BEGIN "/p/tsconfig.json", baseUrl "u", PATHS, key "*", target "t/*", END
pub book_mapping_relative :
    Answers "\u{1}\0\0\u{10}\0\t\u{10}\0\u{1}\0\n\u{b}\u{11}\0\u{1}\0\u{c}\u{12}\0\u{3}\0\u{14}" "/p/tsconfig.jsonu*t/*"
    ((C "/p" "./x" gets gives 1 0 "\u{6}\0/p/u/x")
    ∷ (C "/p" "../x" gets gives 1 0 "\u{4}\0/p/x")
    ∷ (C "/p" "/abs/x" gets gives 1 0 "\r\0/p/u/t//abs/x")
    ∷ [])
unfolding tell
book_mapping_relative = refl

-- BEGIN "/p/tsconfig.json", baseUrl "/x*", PATHS, key "k/*", target "t/*", key "e", target "*", END
pub book_mapping_star_in_base :
    Answers "\u{1}\0\0\u{10}\0\t\u{10}\0\u{3}\0\n\u{b}\u{13}\0\u{3}\0\u{c}\u{16}\0\u{3}\0\u{b}\u{19}\0\u{1}\0\u{c}\u{1a}\0\u{1}\0\u{14}" "/p/tsconfig.json/x*k/*t/*e*"
    ((C "/p" "k/1" gets gives 1 0 "\u{7}\0/x1/t/*")
    ∷ (C "/p" "e" gets gives 1 0 "\u{5}\0/x*/*")
    ∷ [])
unfolding tell
book_mapping_star_in_base = refl

-- BEGIN "/p/tsconfig.json", PATHS, key "a*b*", target "t/*/*", END
pub book_mapping_two_stars :
    Answers "\u{1}\0\0\u{10}\0\n\u{b}\u{10}\0\u{4}\0\u{c}\u{14}\0\u{5}\0\u{14}" "/p/tsconfig.jsona*b*t/*/*"
    ((C "/p" "axb*" gets gives 1 0 "\u{8}\0/p/t/x/*")
    ∷ (C "/p" "axbx" gets gives 0 0 "")
    ∷ [])
unfolding tell
book_mapping_two_stars = refl

-- BEGIN "/a", text 6 "m", FILES, PATHS, extends "./b", key "k", target "t", target "u", file "f", key "l", reference "./b", file "g", END, BEGIN "/b",
-- END
pub book_order_any :
    Answers "\u{1}\0\0\u{2}\0\u{13}\u{6}\u{2}\0\u{1}\0\u{2}\n\u{8}\u{3}\0\u{3}\0\u{b}\u{6}\0\u{1}\0\u{c}\u{7}\0\u{1}\0\u{c}\u{8}\0\u{1}\0\u{3}\t\0\u{1}\0\u{b}\n\0\u{1}\0\r\u{3}\0\u{3}\0\u{3}\u{b}\0\u{1}\0\u{14}\u{1}\u{c}\0\u{2}\0\u{14}" "/am./bktuflg/b"
    ((B "/a" gets gives 0 1 "files=/f\nfiles=/g\nbase=/\nkey=k\ntarget=/t\ntarget=/u\nkey=l\nreference=./b\ntext 6=m\n")
    ∷ [])
unfolding tell
book_order_any = refl

-- BEGIN "/a", baseUrl "", baseUrl ""
pub book_order_base_url_twice :
    Answers "\u{1}\0\0\u{2}\0\t\u{2}\0\0\0\t\u{2}\0\0\0" "/a"
    ((B "/a" gets refuses 3 10)
    ∷ [])
unfolding tell
book_order_base_url_twice = refl

-- BEGIN "/a", declarationDir "", declarationDir ""
pub book_order_declaration_dir_twice :
    Answers "\u{1}\0\0\u{2}\0\u{11}\u{2}\0\0\0\u{11}\u{2}\0\0\0" "/a"
    ((B "/a" gets refuses 3 10)
    ∷ [])
unfolding tell
book_order_declaration_dir_twice = refl

-- BEGIN "/a", END, END
pub book_order_end_twice :
    Answers "\u{1}\0\0\u{2}\0\u{14}\u{14}" "/a"
    ((B "/a" gets refuses 3 6)
    ∷ [])
unfolding tell
book_order_end_twice = refl

-- BEGIN "/a", INCLUDE, exclude "x"
pub book_order_exclude_item_before :
    Answers "\u{1}\0\0\u{2}\0\u{4}\u{7}\u{2}\0\u{1}\0" "/ax"
    ((B "/a" gets refuses 3 6)
    ∷ [])
unfolding tell
book_order_exclude_item_before = refl

-- BEGIN "/a", EXCLUDE, EXCLUDE
pub book_order_exclude_twice :
    Answers "\u{1}\0\0\u{2}\0\u{6}\u{6}" "/a"
    ((B "/a" gets refuses 3 6)
    ∷ [])
unfolding tell
book_order_exclude_twice = refl

-- BEGIN "/a", FILES, FILES
pub book_order_files_twice :
    Answers "\u{1}\0\0\u{2}\0\u{2}\u{2}" "/a"
    ((B "/a" gets refuses 3 6)
    ∷ [])
unfolding tell
book_order_files_twice = refl

-- BEGIN "/a", flag 11 0
pub book_order_flag_11 :
    Answers "\u{1}\0\0\u{2}\0\u{12}\u{b}\0" "/a"
    ((B "/a" gets refuses 3 5)
    ∷ [])
unfolding tell
book_order_flag_11 = refl

-- BEGIN "/a", flag 2 0, flag 2 1
pub book_order_flag_twice :
    Answers "\u{1}\0\0\u{2}\0\u{12}\u{2}\0\u{12}\u{2}\u{1}" "/a"
    ((B "/a" gets refuses 3 8)
    ∷ [])
unfolding tell
book_order_flag_twice = refl

-- BEGIN "/a", flag 0 2
pub book_order_flag_value_2 :
    Answers "\u{1}\0\0\u{2}\0\u{12}\0\u{2}" "/a"
    ((B "/a" gets refuses 3 5)
    ∷ [])
unfolding tell
book_order_flag_value_2 = refl

-- BEGIN "/a", FILES, include "x"
pub book_order_include_item_before :
    Answers "\u{1}\0\0\u{2}\0\u{2}\u{5}\u{2}\0\u{1}\0" "/ax"
    ((B "/a" gets refuses 3 6)
    ∷ [])
unfolding tell
book_order_include_item_before = refl

-- BEGIN "/a", INCLUDE, include "x", INCLUDE
pub book_order_include_twice :
    Answers "\u{1}\0\0\u{2}\0\u{4}\u{5}\u{2}\0\u{1}\0\u{4}" "/ax"
    ((B "/a" gets refuses 3 11)
    ∷ [])
unfolding tell
book_order_include_twice = refl

-- BEGIN "/a", file "x"
pub book_order_item_before_list :
    Answers "\u{1}\0\0\u{2}\0\u{3}\u{2}\0\u{1}\0" "/ax"
    ((B "/a" gets refuses 3 5)
    ∷ [])
unfolding tell
book_order_item_before_list = refl

-- BEGIN "/a", key "x"
pub book_order_key_before_paths :
    Answers "\u{1}\0\0\u{2}\0\u{b}\u{2}\0\u{1}\0" "/ax"
    ((B "/a" gets refuses 3 5)
    ∷ [])
unfolding tell
book_order_key_before_paths = refl

-- BEGIN "/a", outDir "", outDir ""
pub book_order_out_dir_twice :
    Answers "\u{1}\0\0\u{2}\0\u{10}\u{2}\0\0\0\u{10}\u{2}\0\0\0" "/a"
    ((B "/a" gets refuses 3 10)
    ∷ [])
unfolding tell
book_order_out_dir_twice = refl

-- BEGIN "/a", PATHS, PATHS
pub book_order_paths_twice :
    Answers "\u{1}\0\0\u{2}\0\n\n" "/a"
    ((B "/a" gets refuses 3 6)
    ∷ [])
unfolding tell
book_order_paths_twice = refl

-- BEGIN "/a", rootDir "x"
pub book_order_root_dir_before :
    Answers "\u{1}\0\0\u{2}\0\u{f}\u{2}\0\u{1}\0" "/ax"
    ((B "/a" gets refuses 3 5)
    ∷ [])
unfolding tell
book_order_root_dir_before = refl

-- BEGIN "/a", ROOTDIRS, ROOTDIRS
pub book_order_root_dirs_twice :
    Answers "\u{1}\0\0\u{2}\0\u{e}\u{e}" "/a"
    ((B "/a" gets refuses 3 6)
    ∷ [])
unfolding tell
book_order_root_dirs_twice = refl

-- BEGIN "/a", PATHS, key "k", target "t", flag 0 0, target "x"
pub book_order_target_after_flag :
    Answers "\u{1}\0\0\u{2}\0\n\u{b}\u{2}\0\u{1}\0\u{c}\u{3}\0\u{1}\0\u{12}\0\0\u{c}\u{4}\0\u{1}\0" "/aktx"
    ((B "/a" gets refuses 3 19)
    ∷ [])
unfolding tell
book_order_target_after_flag = refl

-- BEGIN "/a", PATHS, key "k", FILES, target "x"
pub book_order_target_after_other :
    Answers "\u{1}\0\0\u{2}\0\n\u{b}\u{2}\0\u{1}\0\u{2}\u{c}\u{3}\0\u{1}\0" "/akx"
    ((B "/a" gets refuses 3 12)
    ∷ [])
unfolding tell
book_order_target_after_other = refl

-- BEGIN "/a", PATHS, target "x"
pub book_order_target_before_key :
    Answers "\u{1}\0\0\u{2}\0\n\u{c}\u{2}\0\u{1}\0" "/ax"
    ((B "/a" gets refuses 3 6)
    ∷ [])
unfolding tell
book_order_target_before_key = refl

-- BEGIN "/a", text 7 ""
pub book_order_text_7 :
    Answers "\u{1}\0\0\u{2}\0\u{13}\u{7}\u{2}\0\0\0" "/a"
    ((B "/a" gets refuses 3 5)
    ∷ [])
unfolding tell
book_order_text_7 = refl

-- BEGIN "/a", text 2 "", text 2 "x"
pub book_order_text_twice :
    Answers "\u{1}\0\0\u{2}\0\u{13}\u{2}\u{2}\0\0\0\u{13}\u{2}\u{2}\0\u{1}\0" "/ax"
    ((B "/a" gets refuses 3 11)
    ∷ [])
unfolding tell
book_order_text_twice = refl

-- BEGIN "/p/tsconfig.json", baseUrl "/u/w/", PATHS, key "k", target "../*", target "x", target "../../*", END
pub book_paths_base_url_0 :
    Answers "\u{1}\0\0\u{10}\0\t\u{10}\0\u{5}\0\n\u{b}\u{15}\0\u{1}\0\u{c}\u{16}\0\u{4}\0\u{c}\u{1a}\0\u{1}\0\u{c}\u{1b}\0\u{7}\0\u{14}" "/p/tsconfig.json/u/w/k../*x../../*"
    ((B "/p" gets gives 0 0 "baseUrl=/u/w/\nbase=/u/w/\nkey=k\ntarget=/u/*\ntarget=/u/w/x\ntarget=/*\n")
    ∷ [])
unfolding tell
book_paths_base_url_0 = refl

-- BEGIN "/p/tsconfig.json", baseUrl "/u/w/.", PATHS, key "k", target "../*", target "x", target "../../*", END
pub book_paths_base_url_1 :
    Answers "\u{1}\0\0\u{10}\0\t\u{10}\0\u{6}\0\n\u{b}\u{16}\0\u{1}\0\u{c}\u{17}\0\u{4}\0\u{c}\u{1b}\0\u{1}\0\u{c}\u{1c}\0\u{7}\0\u{14}" "/p/tsconfig.json/u/w/.k../*x../../*"
    ((B "/p" gets gives 0 0 "baseUrl=/u/w/.\nbase=/u/w/.\nkey=k\ntarget=/u/*\ntarget=/u/w/./x\ntarget=/*\n")
    ∷ [])
unfolding tell
book_paths_base_url_1 = refl

-- BEGIN "/p/tsconfig.json", baseUrl "/u/w/..", PATHS, key "k", target "../*", target "x", target "../../*", END
pub book_paths_base_url_2 :
    Answers "\u{1}\0\0\u{10}\0\t\u{10}\0\u{7}\0\n\u{b}\u{17}\0\u{1}\0\u{c}\u{18}\0\u{4}\0\u{c}\u{1c}\0\u{1}\0\u{c}\u{1d}\0\u{7}\0\u{14}" "/p/tsconfig.json/u/w/..k../*x../../*"
    ((B "/p" gets gives 0 0 "baseUrl=/u/w/..\nbase=/u/w/..\nkey=k\ntarget=/u/w/*\ntarget=/u/w/../x\ntarget=/u/*\n")
    ∷ [])
unfolding tell
book_paths_base_url_2 = refl

-- BEGIN "/p/tsconfig.json", baseUrl "//u//w", PATHS, key "k", target "../*", target "x", target "../../*", END
pub book_paths_base_url_3 :
    Answers "\u{1}\0\0\u{10}\0\t\u{10}\0\u{6}\0\n\u{b}\u{16}\0\u{1}\0\u{c}\u{17}\0\u{4}\0\u{c}\u{1b}\0\u{1}\0\u{c}\u{1c}\0\u{7}\0\u{14}" "/p/tsconfig.json//u//wk../*x../../*"
    ((B "/p" gets gives 0 0 "baseUrl=//u//w\nbase=//u//w\nkey=k\ntarget=//u/*\ntarget=//u//w/x\ntarget=/*\n")
    ∷ [])
unfolding tell
book_paths_base_url_3 = refl

-- BEGIN "/p/tsconfig.json", FILES, file "${configDir}", file "${configDir}//x/../y/", file "src/", file "/abs/", outDir "${configDir}x", END, BEGIN
-- "/tsconfig.json", FILES, file "${configDir}", EXCLUDE, exclude "${configDir}/..", END
pub book_paths_config_dir :
    Answers "\u{1}\0\0\u{10}\0\u{2}\u{3}\u{10}\0\u{c}\0\u{3}\u{1c}\0\u{15}\0\u{3}1\0\u{4}\0\u{3}5\0\u{5}\0\u{10}:\0\r\0\u{14}\u{1}G\0\u{e}\0\u{2}\u{3}\u{10}\0\u{c}\0\u{6}\u{7}U\0\u{f}\0\u{14}" "/p/tsconfig.json${configDir}${configDir}//x/../y/src//abs/${configDir}x/tsconfig.json${configDir}/.."
    ((B "/p" gets gives 0 0 "files=/p/\nfiles=/p/x/../y/\nfiles=/p/src\nfiles=/abs/\nbase=/p\noutDir=/p/x\n")
    ∷ (B "/" gets gives 1 0 "files=/\nexclude=/..\nbase=/\n")
    ∷ [])
unfolding tell
book_paths_config_dir = refl

-- BEGIN "/p/tsconfig.json", baseUrl "", PATHS, key "a/*", target "src/*", target "../*", target "", key "b", target "", END
pub book_paths_empty_base_url :
    Answers "\u{1}\0\0\u{10}\0\t\u{10}\0\0\0\n\u{b}\u{10}\0\u{3}\0\u{c}\u{13}\0\u{5}\0\u{c}\u{18}\0\u{4}\0\u{c}\u{10}\0\0\0\u{b}\u{1c}\0\u{1}\0\u{c}\u{10}\0\0\0\u{14}" "/p/tsconfig.jsona/*src/*../*b"
    ((B "/p" gets gives 0 0 "baseUrl=\nbase=\nkey=a/*\ntarget=src/*\ntarget=*\ntarget=\nkey=b\ntarget=\n")
    ∷ (C "/p" "b" gets gives 1 0 "\0\0")
    ∷ (C "/p" "a/x" gets gives 3 0 "\u{5}\0src/x\u{1}\0x\0\0")
    ∷ [])
unfolding tell
book_paths_empty_base_url = refl

-- BEGIN "/p/tsconfig.json", ROOTDIRS, rootDir "src", rootDir "gen", END
pub book_paths_root_dirs_dot :
    Answers "\u{1}\0\0\u{10}\0\u{e}\u{f}\u{10}\0\u{3}\0\u{f}\u{13}\0\u{3}\0\u{14}" "/p/tsconfig.jsonsrcgen"
    ((T "/p" "/p/src" "." gets gives 2 0 "\u{6}\0/p/src\0\0")
    ∷ [])
unfolding tell
book_paths_root_dirs_dot = refl

-- BEGIN "/p/tsconfig.json", PATHS, key "k/*", target "a/../*/b/./", target "${configDir}/../*", target "/x/../*/", END
pub book_paths_targets :
    Answers "\u{1}\0\0\u{10}\0\n\u{b}\u{10}\0\u{3}\0\u{c}\u{13}\0\u{b}\0\u{c}\u{1e}\0\u{11}\0\u{c}/\0\u{8}\0\u{14}" "/p/tsconfig.jsonk/*a/../*/b/./${configDir}/../*/x/../*/"
    ((B "/p" gets gives 0 0 "base=/p\nkey=k/*\ntarget=/p/*/b\ntarget=/p/../*\ntarget=/x/../*/\n")
    ∷ (C "/p" "k/../z/." gets gives 3 0 "\u{b}\0/p/../z/./b\u{c}\0/p/../../z/.\r\0/x/../../z/./")
    ∷ [])
unfolding tell
book_paths_targets = refl

-- BEGIN "/p/tsconfig.json", FILES, baseUrl "/a/b", PATHS, key "k", target "../c", target "", target "/u/../v", ROOTDIRS, outDir "../../../z", END
pub book_proved_1_to_4 :
    Answers "\u{1}\0\0\u{10}\0\u{2}\t\u{10}\0\u{4}\0\n\u{b}\u{14}\0\u{1}\0\u{c}\u{15}\0\u{4}\0\u{c}\u{19}\0\0\0\u{c}\u{19}\0\u{7}\0\u{e}\u{10} \0\n\0\u{14}" "/p/tsconfig.json/a/bk../c/u/../v../../../z"
    ((B "/p" gets gives 0 0 "files\nbaseUrl=/a/b\nbase=/a/b\nkey=k\ntarget=/a/c\ntarget=\ntarget=/u/../v\nrootDir\noutDir=/z\n")
    ∷ [])
unfolding tell
book_proved_1_to_4 = refl

-- BEGIN "/q/tsconfig.json", INCLUDE, include "", END
pub book_proved_10 :
    Answers "\u{1}\0\0\u{10}\0\u{4}\u{5}\u{10}\0\0\0\u{14}" "/q/tsconfig.json"
    ((O "/q/z.ts" gets gives 0 0 "")
    ∷ (B "/q" gets gives 0 0 "include=\nbase=/q\n")
    ∷ [])
unfolding tell
book_proved_10 = refl

-- BEGIN "/p/tsconfig.json", INCLUDE, include ".ts", include "x.ts", END
pub book_proved_11 :
    Answers "\u{1}\0\0\u{10}\0\u{4}\u{5}\u{10}\0\u{3}\0\u{5}\u{13}\0\u{4}\0\u{14}" "/p/tsconfig.json.tsx.ts"
    ((O "/p/.ts" gets gives 65535 65535 "")
    ∷ (O "/p/x.ts" gets gives 0 0 "")
    ∷ [])
unfolding tell
book_proved_11 = refl

-- BEGIN "/x/A.json", extends "/y/B.json", extends "/z/C.json", END, BEGIN "/y/B.json", flag 2 0, text 5 "b", END, BEGIN "/z/C.json", flag 2 1, END
pub book_proved_12_13 :
    Answers "\u{1}\0\0\t\0\u{8}\t\0\t\0\u{8}\u{12}\0\t\0\u{14}\u{1}\t\0\t\0\u{12}\u{2}\0\u{13}\u{5}\u{1b}\0\u{1}\0\u{14}\u{1}\u{12}\0\t\0\u{12}\u{2}\u{1}\u{14}" "/x/A.json/y/B.json/z/C.jsonb"
    ((B "/x/A" gets gives 0 2 "base=/y\nflag 2=1\ntext 5=b\n")
    ∷ [])
unfolding tell
book_proved_12_13 = refl

-- BEGIN "/a/A.json", extends "./B", END, BEGIN "/a/B.json", extends "./A", END
pub book_proved_14 :
    Answers "\u{1}\0\0\t\0\u{8}\t\0\u{3}\0\u{14}\u{1}\u{c}\0\t\0\u{8}\u{15}\0\u{3}\0\u{14}" "/a/A.json./B/a/B.json./A"
    ((B "/a/A" gets refuses 9 0)
    ∷ (B "/a/B" gets refuses 9 1)
    ∷ [])
unfolding tell
book_proved_14 = refl

-- BEGIN "/p/tsconfig.json", outDir "${configDir}", END
pub book_proved_5 :
    Answers "\u{1}\0\0\u{10}\0\u{10}\u{10}\0\u{c}\0\u{14}" "/p/tsconfig.json${configDir}"
    ((B "/p" gets gives 0 0 "base=/p\noutDir=/p/\n")
    ∷ [])
unfolding tell
book_proved_5 = refl

-- BEGIN "/a/tsconfig.json", END
pub book_proved_6 :
    Answers "\u{1}\0\0\u{10}\0\u{14}" "/a/tsconfig.json"
    ((O "/ab/x.ts" gets gives 65535 65535 "")
    ∷ (O "/a/x.ts" gets gives 0 0 "")
    ∷ [])
unfolding tell
book_proved_6 = refl

-- BEGIN "/p/tsconfig.json", PATHS, key "*", target "1/*", key "a*", target "2/*", key "a*c", target "3/*", key "x*", target "4/*", key "ab*bc", target
-- "5/*", END
pub book_proved_7_to_9 :
    Answers "\u{1}\0\0\u{10}\0\n\u{b}\u{10}\0\u{1}\0\u{c}\u{11}\0\u{3}\0\u{b}\u{14}\0\u{2}\0\u{c}\u{16}\0\u{3}\0\u{b}\u{19}\0\u{3}\0\u{c}\u{1c}\0\u{3}\0\u{b}\u{1f}\0\u{2}\0\u{c}!\0\u{3}\0\u{b}$\0\u{5}\0\u{c})\0\u{3}\0\u{14}" "/p/tsconfig.json*1/*a*2/*a*c3/*x*4/*ab*bc5/*"
    ((C "/p" "abc" gets gives 1 0 "\u{7}\0/p/2/bc")
    ∷ (C "/p" "abbc" gets gives 1 0 "\u{5}\0/p/5/")
    ∷ (C "/p" "q" gets gives 1 0 "\u{6}\0/p/1/q")
    ∷ [])
unfolding tell
book_proved_7_to_9 = refl

-- BEGIN "/p/tsconfig.json", END
pub book_reading_01 :
    Answers "\u{1}\0\0\u{10}\0\u{14}" "/p/tsconfig.json"
    ((C "/p" "x" gets gives 0 0 "")
    ∷ (T "/p" "relative" "x" gets refuses 7 0)
    ∷ (T "/p" "/p/" "x" gets refuses 7 0)
    ∷ (T "/p" "/p#" "x" gets refuses 7 0)
    ∷ (T "p" "/p" "x" gets refuses 7 0)
    ∷ (T "/p" "/p" "x" gets gives 0 0 "")
    ∷ [])
unfolding tell
book_reading_01 = refl

-- BEGIN "/p/t.json", baseUrl "", END
pub book_reading_02_at_the_end :
    Answers "\u{1}\0\0\t\0\t\t\0\0\0\u{14}" "/p/t.json"
    ((B "/p/t" gets gives 0 0 "baseUrl=\nbase=\n")
    ∷ [])
unfolding tell
book_reading_02_at_the_end = refl

-- BEGIN "/p/t.json", baseUrl 8+2, END
pub book_reading_02_one_too_long :
    Answers "\u{1}\0\0\t\0\t\u{8}\0\u{2}\0\u{14}" "/p/t.json"
    ((B "/p/t" gets refuses 4 5)
    ∷ [])
unfolding tell
book_reading_02_one_too_long = refl

-- BEGIN "/p/t.json", baseUrl 10+0, END
pub book_reading_02_past_the_end :
    Answers "\u{1}\0\0\t\0\t\n\0\0\0\u{14}" "/p/t.json"
    ((B "/p/t" gets refuses 4 5)
    ∷ [])
unfolding tell
book_reading_02_past_the_end = refl

-- BEGIN "/a", BEGIN "/b"
pub book_reading_03_begin_inside :
    Answers "\u{1}\0\0\u{2}\0\u{1}\u{2}\0\u{2}\0" "/a/b"
    ((B "/a" gets refuses 3 5)
    ∷ [])
unfolding tell
book_reading_03_begin_inside = refl

-- BEGIN "/a", FILES, bytes 08 00 00 00
pub book_reading_03_cut :
    Answers "\u{1}\0\0\u{2}\0\u{2}\u{8}\0\0\0" "/a"
    ((B "/a" gets refuses 2 6)
    ∷ [])
unfolding tell
book_reading_03_cut = refl

-- bytes 08 00 00 00
pub book_reading_03_cut_outside :
    Answers "\u{8}\0\0\0" ""
    ((B "/a" gets refuses 2 0)
    ∷ [])
unfolding tell
book_reading_03_cut_outside = refl

-- file "/a"
pub book_reading_03_item_outside :
    Answers "\u{3}\0\0\u{2}\0" "/a"
    ((B "/a" gets refuses 3 0)
    ∷ [])
unfolding tell
book_reading_03_item_outside = refl

-- BEGIN "/a", FILES
pub book_reading_03_open :
    Answers "\u{1}\0\0\u{2}\0\u{2}" "/a"
    ((B "/a" gets refuses 2 6)
    ∷ [])
unfolding tell
book_reading_03_open = refl

-- END
pub book_reading_03_outside :
    Answers "\u{14}" ""
    ((B "/a" gets refuses 3 0)
    ∷ [])
unfolding tell
book_reading_03_outside = refl

-- bytes 15
pub book_reading_03_unknown_outside :
    Answers "\u{15}" ""
    ((B "/a" gets refuses 2 0)
    ∷ [])
unfolding tell
book_reading_03_unknown_outside = refl

-- BEGIN "/a", bytes 00
pub book_reading_03_zero :
    Answers "\u{1}\0\0\u{2}\0\0" "/a"
    ((B "/a" gets refuses 2 5)
    ∷ [])
unfolding tell
book_reading_03_zero = refl

-- BEGIN "/a/b", END, BEGIN "/a/b/c", END
pub book_reading_04_ancestor_first :
    Answers "\u{1}\0\0\u{4}\0\u{14}\u{1}\u{4}\0\u{6}\0\u{14}" "/a/b/a/b/c"
    ((B "/a" gets refuses 6 6)
    ∷ [])
unfolding tell
book_reading_04_ancestor_first = refl

-- BEGIN "/a/b/c", END, BEGIN "/a/b", END
pub book_reading_04_ancestor_later :
    Answers "\u{1}\0\0\u{6}\0\u{14}\u{1}\u{6}\0\u{4}\0\u{14}" "/a/b/c/a/b"
    ((B "/a" gets refuses 6 6)
    ∷ [])
unfolding tell
book_reading_04_ancestor_later = refl

-- BEGIN "/a", extends "/", END
pub book_reading_04_extends_0 :
    Answers "\u{1}\0\0\u{2}\0\u{8}\u{2}\0\u{1}\0\u{14}" "/a/"
    ((B "relative" gets refuses 7 0)
    ∷ [])
unfolding tell
book_reading_04_extends_0 = refl

-- BEGIN "/a", extends "/x", END
pub book_reading_04_extends_1 :
    Answers "\u{1}\0\0\u{2}\0\u{8}\u{2}\0\u{2}\0\u{14}" "/a/x"
    ((B "relative" gets refuses 7 0)
    ∷ [])
unfolding tell
book_reading_04_extends_1 = refl

-- BEGIN "/a", extends "/x/", END
pub book_reading_04_extends_2 :
    Answers "\u{1}\0\0\u{2}\0\u{8}\u{2}\0\u{3}\0\u{14}" "/a/x/"
    ((B "/a" gets refuses 4 5)
    ∷ [])
unfolding tell
book_reading_04_extends_2 = refl

-- BEGIN "/a", extends "//", END
pub book_reading_04_extends_3 :
    Answers "\u{1}\0\0\u{2}\0\u{8}\u{2}\0\u{2}\0\u{14}" "/a//"
    ((B "/a" gets refuses 4 5)
    ∷ [])
unfolding tell
book_reading_04_extends_3 = refl

-- BEGIN "/a", extends "/x/../y", END
pub book_reading_04_extends_4 :
    Answers "\u{1}\0\0\u{2}\0\u{8}\u{2}\0\u{7}\0\u{14}" "/a/x/../y"
    ((B "/a" gets refuses 4 5)
    ∷ [])
unfolding tell
book_reading_04_extends_4 = refl

-- BEGIN "/a", extends "x//", END
pub book_reading_04_extends_5 :
    Answers "\u{1}\0\0\u{2}\0\u{8}\u{2}\0\u{3}\0\u{14}" "/ax//"
    ((B "relative" gets refuses 7 0)
    ∷ [])
unfolding tell
book_reading_04_extends_5 = refl

-- BEGIN "/a", extends "", END
pub book_reading_04_extends_6 :
    Answers "\u{1}\0\0\u{2}\0\u{8}\u{2}\0\0\0\u{14}" "/a"
    ((B "relative" gets refuses 7 0)
    ∷ [])
unfolding tell
book_reading_04_extends_6 = refl

-- BEGIN "/a", extends "./x*", END
pub book_reading_04_extends_7 :
    Answers "\u{1}\0\0\u{2}\0\u{8}\u{2}\0\u{4}\0\u{14}" "/a./x*"
    ((B "relative" gets refuses 7 0)
    ∷ [])
unfolding tell
book_reading_04_extends_7 = refl

-- BEGIN "/a", PATHS, key "k", key "k"
pub book_reading_04_key_repeated :
    Answers "\u{1}\0\0\u{2}\0\n\u{b}\u{2}\0\u{1}\0\u{b}\u{2}\0\u{1}\0" "/ak"
    ((B "/a" gets refuses 6 11)
    ∷ [])
unfolding tell
book_reading_04_key_repeated = refl

-- BEGIN "/a/b", END, BEGIN "/a/bc", END
pub book_reading_04_no_ancestor :
    Answers "\u{1}\0\0\u{4}\0\u{14}\u{1}\u{4}\0\u{5}\0\u{14}" "/a/b/a/bc"
    ((B "relative" gets refuses 7 0)
    ∷ [])
unfolding tell
book_reading_04_no_ancestor = refl

-- BEGIN "/", END
pub book_reading_04_path_00 :
    Answers "\u{1}\0\0\u{1}\0\u{14}" "/"
    ((B "/a" gets refuses 4 0)
    ∷ [])
unfolding tell
book_reading_04_path_00 = refl

-- BEGIN "a", END
pub book_reading_04_path_01 :
    Answers "\u{1}\0\0\u{1}\0\u{14}" "a"
    ((B "/a" gets refuses 4 0)
    ∷ [])
unfolding tell
book_reading_04_path_01 = refl

-- BEGIN "", END
pub book_reading_04_path_02 :
    Answers "\u{1}\0\0\0\0\u{14}" ""
    ((B "/a" gets refuses 4 0)
    ∷ [])
unfolding tell
book_reading_04_path_02 = refl

-- BEGIN "/a/", END
pub book_reading_04_path_03 :
    Answers "\u{1}\0\0\u{3}\0\u{14}" "/a/"
    ((B "/a" gets refuses 4 0)
    ∷ [])
unfolding tell
book_reading_04_path_03 = refl

-- BEGIN "//a", END
pub book_reading_04_path_04 :
    Answers "\u{1}\0\0\u{3}\0\u{14}" "//a"
    ((B "/a" gets refuses 4 0)
    ∷ [])
unfolding tell
book_reading_04_path_04 = refl

-- BEGIN "/a/./b", END
pub book_reading_04_path_05 :
    Answers "\u{1}\0\0\u{6}\0\u{14}" "/a/./b"
    ((B "/a" gets refuses 4 0)
    ∷ [])
unfolding tell
book_reading_04_path_05 = refl

-- BEGIN "/a/..", END
pub book_reading_04_path_06 :
    Answers "\u{1}\0\0\u{5}\0\u{14}" "/a/.."
    ((B "/a" gets refuses 4 0)
    ∷ [])
unfolding tell
book_reading_04_path_06 = refl

-- BEGIN "/a*", END
pub book_reading_04_path_07 :
    Answers "\u{1}\0\0\u{3}\0\u{14}" "/a*"
    ((B "/a" gets refuses 4 0)
    ∷ [])
unfolding tell
book_reading_04_path_07 = refl

-- BEGIN "/a?", END
pub book_reading_04_path_08 :
    Answers "\u{1}\0\0\u{3}\0\u{14}" "/a?"
    ((B "/a" gets refuses 4 0)
    ∷ [])
unfolding tell
book_reading_04_path_08 = refl

-- BEGIN "/{", END
pub book_reading_04_path_09 :
    Answers "\u{1}\0\0\u{2}\0\u{14}" "/{"
    ((B "/a" gets refuses 4 0)
    ∷ [])
unfolding tell
book_reading_04_path_09 = refl

-- BEGIN "/}", END
pub book_reading_04_path_10 :
    Answers "\u{1}\0\0\u{2}\0\u{14}" "/}"
    ((B "/a" gets refuses 4 0)
    ∷ [])
unfolding tell
book_reading_04_path_10 = refl

-- BEGIN "/[", END
pub book_reading_04_path_11 :
    Answers "\u{1}\0\0\u{2}\0\u{14}" "/["
    ((B "/a" gets refuses 4 0)
    ∷ [])
unfolding tell
book_reading_04_path_11 = refl

-- BEGIN "/]", END
pub book_reading_04_path_12 :
    Answers "\u{1}\0\0\u{2}\0\u{14}" "/]"
    ((B "/a" gets refuses 4 0)
    ∷ [])
unfolding tell
book_reading_04_path_12 = refl

-- BEGIN "/!", END
pub book_reading_04_path_13 :
    Answers "\u{1}\0\0\u{2}\0\u{14}" "/!"
    ((B "/a" gets refuses 4 0)
    ∷ [])
unfolding tell
book_reading_04_path_13 = refl

-- BEGIN "/#", END
pub book_reading_04_path_14 :
    Answers "\u{1}\0\0\u{2}\0\u{14}" "/#"
    ((B "/a" gets refuses 4 0)
    ∷ [])
unfolding tell
book_reading_04_path_14 = refl

-- BEGIN "/a\\b", END
pub book_reading_04_path_15 :
    Answers "\u{1}\0\0\u{4}\0\u{14}" "/a\\b"
    ((B "/a" gets refuses 4 0)
    ∷ [])
unfolding tell
book_reading_04_path_15 = refl

-- BEGIN "/a\u{7f}", END
pub book_reading_04_path_16 :
    Answers "\u{1}\0\0\u{3}\0\u{14}" "/a\u{7f}"
    ((B "/a" gets refuses 4 0)
    ∷ [])
unfolding tell
book_reading_04_path_16 = refl

-- BEGIN "/a\n", END
pub book_reading_04_path_17 :
    Answers "\u{1}\0\0\u{3}\0\u{14}" "/a\n"
    ((B "/a" gets refuses 4 0)
    ∷ [])
unfolding tell
book_reading_04_path_17 = refl

-- BEGIN "/a ~$@%&()|\"'<>,;:+=^`_-", END
pub book_reading_04_path_good :
    Answers "\u{1}\0\0\u{18}\0\u{14}" "/a ~$@%&()|\"'<>,;:+=^`_-"
    ((B "relative" gets refuses 7 0)
    ∷ [])
unfolding tell
book_reading_04_path_good = refl

-- BEGIN "/a", reference "/", END
pub book_reading_04_reference_0 :
    Answers "\u{1}\0\0\u{2}\0\r\u{2}\0\u{1}\0\u{14}" "/a/"
    ((B "relative" gets refuses 7 0)
    ∷ [])
unfolding tell
book_reading_04_reference_0 = refl

-- BEGIN "/a", reference "/x", END
pub book_reading_04_reference_1 :
    Answers "\u{1}\0\0\u{2}\0\r\u{2}\0\u{2}\0\u{14}" "/a/x"
    ((B "relative" gets refuses 7 0)
    ∷ [])
unfolding tell
book_reading_04_reference_1 = refl

-- BEGIN "/a", reference "/x/", END
pub book_reading_04_reference_2 :
    Answers "\u{1}\0\0\u{2}\0\r\u{2}\0\u{3}\0\u{14}" "/a/x/"
    ((B "/a" gets refuses 4 5)
    ∷ [])
unfolding tell
book_reading_04_reference_2 = refl

-- BEGIN "/a", reference "//", END
pub book_reading_04_reference_3 :
    Answers "\u{1}\0\0\u{2}\0\r\u{2}\0\u{2}\0\u{14}" "/a//"
    ((B "/a" gets refuses 4 5)
    ∷ [])
unfolding tell
book_reading_04_reference_3 = refl

-- BEGIN "/a", reference "/x/../y", END
pub book_reading_04_reference_4 :
    Answers "\u{1}\0\0\u{2}\0\r\u{2}\0\u{7}\0\u{14}" "/a/x/../y"
    ((B "/a" gets refuses 4 5)
    ∷ [])
unfolding tell
book_reading_04_reference_4 = refl

-- BEGIN "/a", reference "x//", END
pub book_reading_04_reference_5 :
    Answers "\u{1}\0\0\u{2}\0\r\u{2}\0\u{3}\0\u{14}" "/ax//"
    ((B "relative" gets refuses 7 0)
    ∷ [])
unfolding tell
book_reading_04_reference_5 = refl

-- BEGIN "/a", reference "", END
pub book_reading_04_reference_6 :
    Answers "\u{1}\0\0\u{2}\0\r\u{2}\0\0\0\u{14}" "/a"
    ((B "relative" gets refuses 7 0)
    ∷ [])
unfolding tell
book_reading_04_reference_6 = refl

-- BEGIN "/a", reference "./x*", END
pub book_reading_04_reference_7 :
    Answers "\u{1}\0\0\u{2}\0\r\u{2}\0\u{4}\0\u{14}" "/a./x*"
    ((B "relative" gets refuses 7 0)
    ∷ [])
unfolding tell
book_reading_04_reference_7 = refl

-- BEGIN "/a/b", END, BEGIN "/a/b", END
pub book_reading_04_repeated :
    Answers "\u{1}\0\0\u{4}\0\u{14}\u{1}\0\0\u{4}\0\u{14}" "/a/b"
    ((B "/a" gets refuses 6 6)
    ∷ [])
unfolding tell
book_reading_04_repeated = refl

-- BEGIN "/a", INCLUDE, include "${configDir}**", END
pub book_reading_05_00_5 :
    Answers "\u{1}\0\0\u{2}\0\u{4}\u{5}\u{2}\0\u{e}\0\u{14}" "/a${configDir}**"
    ((B "relative" gets refuses 7 0)
    ∷ [])
unfolding tell
book_reading_05_00_5 = refl

-- BEGIN "/a", EXCLUDE, exclude "${configDir}**", END
pub book_reading_05_00_7 :
    Answers "\u{1}\0\0\u{2}\0\u{6}\u{7}\u{2}\0\u{e}\0\u{14}" "/a${configDir}**"
    ((B "relative" gets refuses 7 0)
    ∷ [])
unfolding tell
book_reading_05_00_7 = refl

-- BEGIN "/a", INCLUDE, include "${configDir}/**", END
pub book_reading_05_01_5 :
    Answers "\u{1}\0\0\u{2}\0\u{4}\u{5}\u{2}\0\u{f}\0\u{14}" "/a${configDir}/**"
    ((B "relative" gets refuses 7 0)
    ∷ [])
unfolding tell
book_reading_05_01_5 = refl

-- BEGIN "/a", EXCLUDE, exclude "${configDir}/**", END
pub book_reading_05_01_7 :
    Answers "\u{1}\0\0\u{2}\0\u{6}\u{7}\u{2}\0\u{f}\0\u{14}" "/a${configDir}/**"
    ((B "relative" gets refuses 7 0)
    ∷ [])
unfolding tell
book_reading_05_01_7 = refl

-- BEGIN "/a", INCLUDE, include "**", END
pub book_reading_05_02_5 :
    Answers "\u{1}\0\0\u{2}\0\u{4}\u{5}\u{2}\0\u{2}\0\u{14}" "/a**"
    ((B "relative" gets refuses 7 0)
    ∷ [])
unfolding tell
book_reading_05_02_5 = refl

-- BEGIN "/a", EXCLUDE, exclude "**", END
pub book_reading_05_02_7 :
    Answers "\u{1}\0\0\u{2}\0\u{6}\u{7}\u{2}\0\u{2}\0\u{14}" "/a**"
    ((B "relative" gets refuses 7 0)
    ∷ [])
unfolding tell
book_reading_05_02_7 = refl

-- BEGIN "/a", INCLUDE, include "a/**/b", END
pub book_reading_05_03_5 :
    Answers "\u{1}\0\0\u{2}\0\u{4}\u{5}\u{2}\0\u{6}\0\u{14}" "/aa/**/b"
    ((B "relative" gets refuses 7 0)
    ∷ [])
unfolding tell
book_reading_05_03_5 = refl

-- BEGIN "/a", EXCLUDE, exclude "a/**/b", END
pub book_reading_05_03_7 :
    Answers "\u{1}\0\0\u{2}\0\u{6}\u{7}\u{2}\0\u{6}\0\u{14}" "/aa/**/b"
    ((B "relative" gets refuses 7 0)
    ∷ [])
unfolding tell
book_reading_05_03_7 = refl

-- BEGIN "/a", INCLUDE, include "*/*", END
pub book_reading_05_04_5 :
    Answers "\u{1}\0\0\u{2}\0\u{4}\u{5}\u{2}\0\u{3}\0\u{14}" "/a*/*"
    ((B "relative" gets refuses 7 0)
    ∷ [])
unfolding tell
book_reading_05_04_5 = refl

-- BEGIN "/a", EXCLUDE, exclude "*/*", END
pub book_reading_05_04_7 :
    Answers "\u{1}\0\0\u{2}\0\u{6}\u{7}\u{2}\0\u{3}\0\u{14}" "/a*/*"
    ((B "relative" gets refuses 7 0)
    ∷ [])
unfolding tell
book_reading_05_04_7 = refl

-- BEGIN "/a", INCLUDE, include "a*b*", END
pub book_reading_05_05_5 :
    Answers "\u{1}\0\0\u{2}\0\u{4}\u{5}\u{2}\0\u{4}\0\u{14}" "/aa*b*"
    ((B "relative" gets refuses 7 0)
    ∷ [])
unfolding tell
book_reading_05_05_5 = refl

-- BEGIN "/a", EXCLUDE, exclude "a*b*", END
pub book_reading_05_05_7 :
    Answers "\u{1}\0\0\u{2}\0\u{6}\u{7}\u{2}\0\u{4}\0\u{14}" "/aa*b*"
    ((B "relative" gets refuses 7 0)
    ∷ [])
unfolding tell
book_reading_05_05_7 = refl

-- BEGIN "/a", INCLUDE, include "***", END
pub book_reading_05_06_5 :
    Answers "\u{1}\0\0\u{2}\0\u{4}\u{5}\u{2}\0\u{3}\0\u{14}" "/a***"
    ((B "/a" gets refuses 4 6)
    ∷ [])
unfolding tell
book_reading_05_06_5 = refl

-- BEGIN "/a", EXCLUDE, exclude "***", END
pub book_reading_05_06_7 :
    Answers "\u{1}\0\0\u{2}\0\u{6}\u{7}\u{2}\0\u{3}\0\u{14}" "/a***"
    ((B "/a" gets refuses 4 6)
    ∷ [])
unfolding tell
book_reading_05_06_7 = refl

-- BEGIN "/a", INCLUDE, include "a**", END
pub book_reading_05_07_5 :
    Answers "\u{1}\0\0\u{2}\0\u{4}\u{5}\u{2}\0\u{3}\0\u{14}" "/aa**"
    ((B "/a" gets refuses 4 6)
    ∷ [])
unfolding tell
book_reading_05_07_5 = refl

-- BEGIN "/a", EXCLUDE, exclude "a**", END
pub book_reading_05_07_7 :
    Answers "\u{1}\0\0\u{2}\0\u{6}\u{7}\u{2}\0\u{3}\0\u{14}" "/aa**"
    ((B "/a" gets refuses 4 6)
    ∷ [])
unfolding tell
book_reading_05_07_7 = refl

-- BEGIN "/a", INCLUDE, include "**a", END
pub book_reading_05_08_5 :
    Answers "\u{1}\0\0\u{2}\0\u{4}\u{5}\u{2}\0\u{3}\0\u{14}" "/a**a"
    ((B "/a" gets refuses 4 6)
    ∷ [])
unfolding tell
book_reading_05_08_5 = refl

-- BEGIN "/a", EXCLUDE, exclude "**a", END
pub book_reading_05_08_7 :
    Answers "\u{1}\0\0\u{2}\0\u{6}\u{7}\u{2}\0\u{3}\0\u{14}" "/a**a"
    ((B "/a" gets refuses 4 6)
    ∷ [])
unfolding tell
book_reading_05_08_7 = refl

-- BEGIN "/a", INCLUDE, include "${configDir}a**", END
pub book_reading_05_09_5 :
    Answers "\u{1}\0\0\u{2}\0\u{4}\u{5}\u{2}\0\u{f}\0\u{14}" "/a${configDir}a**"
    ((B "/a" gets refuses 4 6)
    ∷ [])
unfolding tell
book_reading_05_09_5 = refl

-- BEGIN "/a", EXCLUDE, exclude "${configDir}a**", END
pub book_reading_05_09_7 :
    Answers "\u{1}\0\0\u{2}\0\u{6}\u{7}\u{2}\0\u{f}\0\u{14}" "/a${configDir}a**"
    ((B "/a" gets refuses 4 6)
    ∷ [])
unfolding tell
book_reading_05_09_7 = refl

-- BEGIN "/a", INCLUDE, include "****", END
pub book_reading_05_10_5 :
    Answers "\u{1}\0\0\u{2}\0\u{4}\u{5}\u{2}\0\u{4}\0\u{14}" "/a****"
    ((B "/a" gets refuses 4 6)
    ∷ [])
unfolding tell
book_reading_05_10_5 = refl

-- BEGIN "/a", EXCLUDE, exclude "****", END
pub book_reading_05_10_7 :
    Answers "\u{1}\0\0\u{2}\0\u{6}\u{7}\u{2}\0\u{4}\0\u{14}" "/a****"
    ((B "/a" gets refuses 4 6)
    ∷ [])
unfolding tell
book_reading_05_10_7 = refl

-- BEGIN "/a", INCLUDE, include "a/**b/c", END
pub book_reading_05_11_5 :
    Answers "\u{1}\0\0\u{2}\0\u{4}\u{5}\u{2}\0\u{7}\0\u{14}" "/aa/**b/c"
    ((B "/a" gets refuses 4 6)
    ∷ [])
unfolding tell
book_reading_05_11_5 = refl

-- BEGIN "/a", EXCLUDE, exclude "a/**b/c", END
pub book_reading_05_11_7 :
    Answers "\u{1}\0\0\u{2}\0\u{6}\u{7}\u{2}\0\u{7}\0\u{14}" "/aa/**b/c"
    ((B "/a" gets refuses 4 6)
    ∷ [])
unfolding tell
book_reading_05_11_7 = refl

-- BEGIN "/a", INCLUDE, include "{a", END
pub book_reading_05_12_5 :
    Answers "\u{1}\0\0\u{2}\0\u{4}\u{5}\u{2}\0\u{2}\0\u{14}" "/a{a"
    ((B "/a" gets refuses 4 6)
    ∷ [])
unfolding tell
book_reading_05_12_5 = refl

-- BEGIN "/a", EXCLUDE, exclude "{a", END
pub book_reading_05_12_7 :
    Answers "\u{1}\0\0\u{2}\0\u{6}\u{7}\u{2}\0\u{2}\0\u{14}" "/a{a"
    ((B "/a" gets refuses 4 6)
    ∷ [])
unfolding tell
book_reading_05_12_7 = refl

-- BEGIN "/a", INCLUDE, include "a}", END
pub book_reading_05_13_5 :
    Answers "\u{1}\0\0\u{2}\0\u{4}\u{5}\u{2}\0\u{2}\0\u{14}" "/aa}"
    ((B "/a" gets refuses 4 6)
    ∷ [])
unfolding tell
book_reading_05_13_5 = refl

-- BEGIN "/a", EXCLUDE, exclude "a}", END
pub book_reading_05_13_7 :
    Answers "\u{1}\0\0\u{2}\0\u{6}\u{7}\u{2}\0\u{2}\0\u{14}" "/aa}"
    ((B "/a" gets refuses 4 6)
    ∷ [])
unfolding tell
book_reading_05_13_7 = refl

-- BEGIN "/a", INCLUDE, include "[", END
pub book_reading_05_14_5 :
    Answers "\u{1}\0\0\u{2}\0\u{4}\u{5}\u{2}\0\u{1}\0\u{14}" "/a["
    ((B "/a" gets refuses 4 6)
    ∷ [])
unfolding tell
book_reading_05_14_5 = refl

-- BEGIN "/a", EXCLUDE, exclude "[", END
pub book_reading_05_14_7 :
    Answers "\u{1}\0\0\u{2}\0\u{6}\u{7}\u{2}\0\u{1}\0\u{14}" "/a["
    ((B "/a" gets refuses 4 6)
    ∷ [])
unfolding tell
book_reading_05_14_7 = refl

-- BEGIN "/a", INCLUDE, include "]", END
pub book_reading_05_15_5 :
    Answers "\u{1}\0\0\u{2}\0\u{4}\u{5}\u{2}\0\u{1}\0\u{14}" "/a]"
    ((B "/a" gets refuses 4 6)
    ∷ [])
unfolding tell
book_reading_05_15_5 = refl

-- BEGIN "/a", EXCLUDE, exclude "]", END
pub book_reading_05_15_7 :
    Answers "\u{1}\0\0\u{2}\0\u{6}\u{7}\u{2}\0\u{1}\0\u{14}" "/a]"
    ((B "/a" gets refuses 4 6)
    ∷ [])
unfolding tell
book_reading_05_15_7 = refl

-- BEGIN "/a", INCLUDE, include "!a", END
pub book_reading_05_16_5 :
    Answers "\u{1}\0\0\u{2}\0\u{4}\u{5}\u{2}\0\u{2}\0\u{14}" "/a!a"
    ((B "/a" gets refuses 4 6)
    ∷ [])
unfolding tell
book_reading_05_16_5 = refl

-- BEGIN "/a", EXCLUDE, exclude "!a", END
pub book_reading_05_16_7 :
    Answers "\u{1}\0\0\u{2}\0\u{6}\u{7}\u{2}\0\u{2}\0\u{14}" "/a!a"
    ((B "/a" gets refuses 4 6)
    ∷ [])
unfolding tell
book_reading_05_16_7 = refl

-- BEGIN "/a", INCLUDE, include "a/${configDir}", END
pub book_reading_05_17_5 :
    Answers "\u{1}\0\0\u{2}\0\u{4}\u{5}\u{2}\0\u{e}\0\u{14}" "/aa/${configDir}"
    ((B "/a" gets refuses 4 6)
    ∷ [])
unfolding tell
book_reading_05_17_5 = refl

-- BEGIN "/a", EXCLUDE, exclude "a/${configDir}", END
pub book_reading_05_17_7 :
    Answers "\u{1}\0\0\u{2}\0\u{6}\u{7}\u{2}\0\u{e}\0\u{14}" "/aa/${configDir}"
    ((B "/a" gets refuses 4 6)
    ∷ [])
unfolding tell
book_reading_05_17_7 = refl

-- BEGIN "/a", INCLUDE, include "${configDir}${configDir}", END
pub book_reading_05_18_5 :
    Answers "\u{1}\0\0\u{2}\0\u{4}\u{5}\u{2}\0\u{18}\0\u{14}" "/a${configDir}${configDir}"
    ((B "/a" gets refuses 4 6)
    ∷ [])
unfolding tell
book_reading_05_18_5 = refl

-- BEGIN "/a", EXCLUDE, exclude "${configDir}${configDir}", END
pub book_reading_05_18_7 :
    Answers "\u{1}\0\0\u{2}\0\u{6}\u{7}\u{2}\0\u{18}\0\u{14}" "/a${configDir}${configDir}"
    ((B "/a" gets refuses 4 6)
    ∷ [])
unfolding tell
book_reading_05_18_7 = refl

-- BEGIN "/a", INCLUDE, include "a?#", END
pub book_reading_05_19_5 :
    Answers "\u{1}\0\0\u{2}\0\u{4}\u{5}\u{2}\0\u{3}\0\u{14}" "/aa?#"
    ((B "relative" gets refuses 7 0)
    ∷ [])
unfolding tell
book_reading_05_19_5 = refl

-- BEGIN "/a", EXCLUDE, exclude "a?#", END
pub book_reading_05_19_7 :
    Answers "\u{1}\0\0\u{2}\0\u{6}\u{7}\u{2}\0\u{3}\0\u{14}" "/aa?#"
    ((B "relative" gets refuses 7 0)
    ∷ [])
unfolding tell
book_reading_05_19_7 = refl

-- BEGIN "/a", INCLUDE, include "", END
pub book_reading_05_20_5 :
    Answers "\u{1}\0\0\u{2}\0\u{4}\u{5}\u{2}\0\0\0\u{14}" "/a"
    ((B "relative" gets refuses 7 0)
    ∷ [])
unfolding tell
book_reading_05_20_5 = refl

-- BEGIN "/a", EXCLUDE, exclude "", END
pub book_reading_05_20_7 :
    Answers "\u{1}\0\0\u{2}\0\u{6}\u{7}\u{2}\0\0\0\u{14}" "/a"
    ((B "relative" gets refuses 7 0)
    ∷ [])
unfolding tell
book_reading_05_20_7 = refl

-- BEGIN "/a", FILES, file "a**", file "{x}", file "![]", END
pub book_reading_05_not_files :
    Answers "\u{1}\0\0\u{2}\0\u{2}\u{3}\u{2}\0\u{3}\0\u{3}\u{5}\0\u{3}\0\u{3}\u{8}\0\u{3}\0\u{14}" "/aa**{x}![]"
    ((B "relative" gets refuses 7 0)
    ∷ [])
unfolding tell
book_reading_05_not_files = refl

-- BEGIN "/p/tsconfig.json", extends "x", END, BEGIN "/p/x.json", END, BEGIN "/p/node_modules/x/tsconfig.json", END, BEGIN "/p/package.json", END
pub book_reading_06_bare :
    Answers "\u{1}\0\0\u{10}\0\u{8}\u{10}\0\u{1}\0\u{14}\u{1}\u{11}\0\t\0\u{14}\u{1}\u{1a}\0\u{1f}\0\u{14}\u{1}9\0\u{f}\0\u{14}" "/p/tsconfig.jsonx/p/x.json/p/node_modules/x/tsconfig.json/p/package.json"
    ((B "/p" gets refuses 12 0)
    ∷ [])
unfolding tell
book_reading_06_bare = refl

-- BEGIN "/p/tsconfig.json", extends ".x", extends "...", extends "..d", END, BEGIN "/p/.x.json", flag 0 1, END, BEGIN "/p/....json", flag 1 1, END,
-- BEGIN "/p/..d", flag 2 1, END
pub book_reading_06_extends :
    Answers "\u{1}\0\0\u{10}\0\u{8}\u{10}\0\u{2}\0\u{8}\u{12}\0\u{3}\0\u{8}\u{15}\0\u{3}\0\u{14}\u{1}\u{18}\0\n\0\u{12}\0\u{1}\u{14}\u{1}\"\0\u{b}\0\u{12}\u{1}\u{1}\u{14}\u{1}-\0\u{6}\0\u{12}\u{2}\u{1}\u{14}" "/p/tsconfig.json.x.....d/p/.x.json/p/....json/p/..d"
    ((B "/p" gets gives 0 3 "base=/p\nflag 0=1\nflag 1=1\nflag 2=1\n")
    ∷ [])
unfolding tell
book_reading_06_extends = refl

-- BEGIN "/p/tsconfig.json", extends "#x", END, BEGIN "/p/package.json", END
pub book_reading_06_hash :
    Answers "\u{1}\0\0\u{10}\0\u{8}\u{10}\0\u{2}\0\u{14}\u{1}\u{12}\0\u{f}\0\u{14}" "/p/tsconfig.json#x/p/package.json"
    ((B "/p" gets refuses 12 0)
    ∷ [])
unfolding tell
book_reading_06_hash = refl

-- BEGIN "/p/tsconfig.json", reference "", END
pub book_reading_06_reference :
    Answers "\u{1}\0\0\u{10}\0\r\u{10}\0\0\0\u{14}" "/p/tsconfig.json"
    ((B "/p" gets refuses 8 0)
    ∷ (O "/p/x.ts" gets refuses 8 0)
    ∷ [])
unfolding tell
book_reading_06_reference = refl

-- BEGIN "/p/tsconfig.json", baseUrl "u", END, BEGIN "/q/tsconfig.json", extends "./none", END
pub book_reading_07 :
    Answers "\u{1}\0\0\u{10}\0\t\u{10}\0\u{1}\0\u{14}\u{1}\u{11}\0\u{10}\0\u{8}!\0\u{6}\0\u{14}" "/p/tsconfig.jsonu/q/tsconfig.json./none"
    ((T "/q" "/p/node_modules" "x" gets refuses 8 1)
    ∷ (T "/p" "/p/node_modules" "x" gets gives 0 0 "")
    ∷ (T "/p" "/p/node_modules/y/z" "x" gets gives 0 0 "")
    ∷ (T "/p" "/p/node_modules2" "x" gets gives 1 0 "\u{6}\0/p/u/x")
    ∷ (O "/q/node_modules/x.ts" gets gives 65535 65535 "")
    ∷ (O "/q/x.ts" gets refuses 8 1)
    ∷ [])
unfolding tell
book_reading_07 = refl

-- BEGIN "/p/tsconfig.json", PATHS, key "k", target "d", target "e", target "d", END
pub book_reading_08 :
    Answers "\u{1}\0\0\u{10}\0\n\u{b}\u{10}\0\u{1}\0\u{c}\u{11}\0\u{1}\0\u{c}\u{12}\0\u{1}\0\u{c}\u{11}\0\u{1}\0\u{14}" "/p/tsconfig.jsonkde"
    ((T "/p" "/p/d" "k" gets gives 3 0 "\u{4}\0/p/d\u{4}\0/p/e\u{4}\0/p/d")
    ∷ [])
unfolding tell
book_reading_08 = refl

-- BEGIN "/a/A.json", extends "./B", extends "./B", extends "./B", END, BEGIN "/a/B.json", extends "./C", END, BEGIN "/a/C.json", END
pub book_reading_09 :
    Answers "\u{1}\0\0\t\0\u{8}\t\0\u{3}\0\u{8}\t\0\u{3}\0\u{8}\t\0\u{3}\0\u{14}\u{1}\u{c}\0\t\0\u{8}\u{15}\0\u{3}\0\u{14}\u{1}\u{18}\0\t\0\u{14}" "/a/A.json./B/a/B.json./C/a/C.json"
    ((B "/a/A" gets gives 0 4 "base=/a\n")
    ∷ [])
unfolding tell
book_reading_09 = refl

-- BEGIN "/a/b/tsconfig.json", INCLUDE, include "x", END, BEGIN "/a/tsconfig.json", extends "./none", END, BEGIN "/c/tsconfig.json", reference
-- "./broken", END, BEGIN "/c/broken.json", extends "", END
pub book_reading_10 :
    Answers "\u{1}\0\0\u{12}\0\u{4}\u{5}\u{12}\0\u{1}\0\u{14}\u{1}\u{13}\0\u{10}\0\u{8}#\0\u{6}\0\u{14}\u{1})\0\u{10}\0\r9\0\u{8}\0\u{14}\u{1}A\0\u{e}\0\u{8}O\0\0\0\u{14}" "/a/b/tsconfig.jsonx/a/tsconfig.json./none/c/tsconfig.json./broken/c/broken.json"
    ((O "/a/b/x/1.ts" gets gives 0 0 "")
    ∷ (O "/a/b/y/1.ts" gets refuses 8 1)
    ∷ (B "/c" gets refuses 11 3)
    ∷ (C "/c" "x" gets refuses 11 3)
    ∷ (T "/c" "/c" "x" gets refuses 11 3)
    ∷ (O "/c/x.ts" gets refuses 11 3)
    ∷ [])
unfolding tell
book_reading_10 = refl

-- BEGIN "/a/1", FILES, file "", INCLUDE, include "", EXCLUDE, exclude "", PATHS, key "", target "", key "k", ROOTDIRS, rootDir "", outDir "",
-- declarationDir "", text 0 "", END, BEGIN "/a/2", FILES, INCLUDE, EXCLUDE, PATHS, ROOTDIRS, END
pub book_reading_11 :
    Answers "\u{1}\0\0\u{4}\0\u{2}\u{3}\u{4}\0\0\0\u{4}\u{5}\u{4}\0\0\0\u{6}\u{7}\u{4}\0\0\0\n\u{b}\u{4}\0\0\0\u{c}\u{4}\0\0\0\u{b}\u{4}\0\u{1}\0\u{e}\u{f}\u{4}\0\0\0\u{10}\u{4}\0\0\0\u{11}\u{4}\0\0\0\u{13}\0\u{4}\0\0\0\u{14}\u{1}\u{5}\0\u{4}\0\u{2}\u{4}\u{6}\n\u{e}\u{14}" "/a/1k/a/2"
    ((B "/a/1" gets gives 0 0 "files=\ninclude=\nexclude=\nbase=/a\nkey=\ntarget=\nkey=k\nrootDir=\noutDir=\ndeclarationDir=\ntext 0=\n")
    ∷ (B "/a/2" gets gives 1 0 "files\ninclude\nexclude\nbase=/a\npaths\nrootDir\n")
    ∷ [])
unfolding tell
book_reading_11 = refl

-- BEGIN "/p/tsconfig.json", INCLUDE, include "//p/**/*", include "/p//x/*", include "/q/**/*", END
pub book_reading_12 :
    Answers "\u{1}\0\0\u{10}\0\u{4}\u{5}\u{10}\0\u{8}\0\u{5}\u{18}\0\u{7}\0\u{5}\u{1f}\0\u{7}\0\u{14}" "/p/tsconfig.json//p/**/*/p//x/*/q/**/*"
    ((O "/p/a.ts" gets gives 65535 65535 "")
    ∷ (O "/p/x/a.ts" gets gives 65535 65535 "")
    ∷ [])
unfolding tell
book_reading_12 = refl

-- BEGIN "/p/tsconfig.json", END
pub book_reading_13 :
    Answers "\u{1}\0\0\u{10}\0\u{14}" "/p/tsconfig.json"
    ((B "nothing" gets refuses 7 0)
    ∷ (B "/nothing" gets refuses 8 65535)
    ∷ (C "/nothing" "a\\b" gets refuses 7 0)
    ∷ [])
unfolding tell
book_reading_13 = refl

-- END
pub book_reading_13_book_first :
    Answers "\u{14}" ""
    ((B "nothing" gets refuses 3 0)
    ∷ (B "/nothing" gets refuses 3 0)
    ∷ (O "x" gets refuses 3 0)
    ∷ [])
unfolding tell
book_reading_13_book_first = refl

-- BEGIN "/p/1", ROOTDIRS, rootDir "/p/src", rootDir "/p/src/", rootDir "/p/gen", END, BEGIN "/p/2", ROOTDIRS, rootDir "", rootDir "/g", END, BEGIN
-- "/p/3", ROOTDIRS, END
pub book_root_dirs :
    Answers "\u{1}\0\0\u{4}\0\u{e}\u{f}\u{4}\0\u{6}\0\u{f}\n\0\u{7}\0\u{f}\u{11}\0\u{6}\0\u{14}\u{1}\u{17}\0\u{4}\0\u{e}\u{f}\u{1b}\0\0\0\u{f}\u{1b}\0\u{2}\0\u{14}\u{1}\u{1d}\0\u{4}\0\u{e}\u{14}" "/p/1/p/src/p/src//p/gen/p/2/g/p/3"
    ((T "/p/1" "/p/src" "./x" gets gives 2 0 "\u{8}\0/p/src/x\u{8}\0/p/gen/x")
    ∷ (T "/p/1" "/p/gen" "./x" gets gives 3 0 "\u{8}\0/p/gen/x\u{8}\0/p/src/x\u{8}\0/p/src/x")
    ∷ (T "/p/2" "/q" "./x" gets gives 2 0 "\u{4}\0/q/x\u{4}\0/q/x")
    ∷ (T "/p/3" "/q" "./x" gets gives 0 0 "")
    ∷ (T "/p/1" "/p/src" "../x" gets gives 0 0 "")
    ∷ [])
unfolding tell
book_root_dirs = refl

-- BEGIN "/p/tsconfig.json", ROOTDIRS, rootDir "src", rootDir "gen", END
pub book_seen_00 :
    Answers "\u{1}\0\0\u{10}\0\u{e}\u{f}\u{10}\0\u{3}\0\u{f}\u{13}\0\u{3}\0\u{14}" "/p/tsconfig.jsonsrcgen"
    ((T "/p" "/p/src" "." gets gives 2 0 "\u{6}\0/p/src\0\0")
    ∷ (T "/p" "/p/src/a" ".." gets gives 2 0 "\u{6}\0/p/src\0\0")
    ∷ (T "/p" "/p/src" "./x" gets gives 2 0 "\u{8}\0/p/src/x\u{8}\0/p/gen/x")
    ∷ (T "/p" "/p/other" "./x" gets gives 0 0 "")
    ∷ (B "/p" gets gives 0 0 "base=/p\nrootDir=/p/src\nrootDir=/p/gen\n")
    ∷ [])
unfolding tell
book_seen_00 = refl

-- BEGIN "/p/tsconfig.json", baseUrl "", PATHS, key "a/*", target "src/*", target "../*", target "", key "b", target "", END
pub book_seen_01 :
    Answers "\u{1}\0\0\u{10}\0\t\u{10}\0\0\0\n\u{b}\u{10}\0\u{3}\0\u{c}\u{13}\0\u{5}\0\u{c}\u{18}\0\u{4}\0\u{c}\u{10}\0\0\0\u{b}\u{1c}\0\u{1}\0\u{c}\u{10}\0\0\0\u{14}" "/p/tsconfig.jsona/*src/*../*b"
    ((B "/p" gets gives 0 0 "baseUrl=\nbase=\nkey=a/*\ntarget=src/*\ntarget=*\ntarget=\nkey=b\ntarget=\n")
    ∷ (C "/p" "a/x" gets gives 3 0 "\u{5}\0src/x\u{1}\0x\0\0")
    ∷ (C "/p" "b" gets gives 1 0 "\0\0")
    ∷ (C "/p" "zz" gets gives 1 0 "\u{2}\0zz")
    ∷ (C "/p" "" gets gives 1 0 "\0\0")
    ∷ (C "/p" "../q" gets gives 1 0 "\u{1}\0q")
    ∷ (T "/p" "/p" "zz" gets gives 1 0 "\u{2}\0zz")
    ∷ [])
unfolding tell
book_seen_01 = refl

-- BEGIN "/p/tsconfig.json", baseUrl "/u/w/", PATHS, key "*", target "../*", target "x", target "../../*", END
pub book_seen_02 :
    Answers "\u{1}\0\0\u{10}\0\t\u{10}\0\u{5}\0\n\u{b}\u{15}\0\u{1}\0\u{c}\u{16}\0\u{4}\0\u{c}\u{1a}\0\u{1}\0\u{c}\u{1b}\0\u{7}\0\u{14}" "/p/tsconfig.json/u/w/*../*x../../*"
    ((B "/p" gets gives 0 0 "baseUrl=/u/w/\nbase=/u/w/\nkey=*\ntarget=/u/*\ntarget=/u/w/x\ntarget=/*\n")
    ∷ (C "/p" "q" gets gives 3 0 "\u{4}\0/u/q\u{6}\0/u/w/x\u{2}\0/q")
    ∷ (C "/p" "./q" gets gives 1 0 "\u{6}\0/u/w/q")
    ∷ (C "/p" "../q" gets gives 1 0 "\u{4}\0/u/q")
    ∷ (C "/p" "/abs/q" gets gives 3 0 "\t\0/u//abs/q\u{6}\0/u/w/x\u{7}\0//abs/q")
    ∷ (T "/p" "/p" "q" gets gives 4 0 "\u{4}\0/u/q\u{6}\0/u/w/x\u{2}\0/q\u{6}\0/u/w/q")
    ∷ (T "/p" "/p" "/abs/q" gets gives 4 0 "\t\0/u//abs/q\u{6}\0/u/w/x\u{7}\0//abs/q\u{6}\0/abs/q")
    ∷ [])
unfolding tell
book_seen_02 = refl

-- BEGIN "/p/tsconfig.json", baseUrl "/u/w/.", PATHS, key "*", target "../*", target "x", target "../../*", END
pub book_seen_03 :
    Answers "\u{1}\0\0\u{10}\0\t\u{10}\0\u{6}\0\n\u{b}\u{16}\0\u{1}\0\u{c}\u{17}\0\u{4}\0\u{c}\u{1b}\0\u{1}\0\u{c}\u{1c}\0\u{7}\0\u{14}" "/p/tsconfig.json/u/w/.*../*x../../*"
    ((B "/p" gets gives 0 0 "baseUrl=/u/w/.\nbase=/u/w/.\nkey=*\ntarget=/u/*\ntarget=/u/w/./x\ntarget=/*\n")
    ∷ (C "/p" "q" gets gives 3 0 "\u{4}\0/u/q\u{8}\0/u/w/./x\u{2}\0/q")
    ∷ (C "/p" "./q" gets gives 1 0 "\u{8}\0/u/w/./q")
    ∷ (C "/p" "../q" gets gives 1 0 "\u{4}\0/u/q")
    ∷ (C "/p" "/abs/q" gets gives 3 0 "\t\0/u//abs/q\u{8}\0/u/w/./x\u{7}\0//abs/q")
    ∷ (T "/p" "/p" "q" gets gives 4 0 "\u{4}\0/u/q\u{8}\0/u/w/./x\u{2}\0/q\u{8}\0/u/w/./q")
    ∷ (T "/p" "/p" "/abs/q" gets gives 4 0 "\t\0/u//abs/q\u{8}\0/u/w/./x\u{7}\0//abs/q\u{6}\0/abs/q")
    ∷ [])
unfolding tell
book_seen_03 = refl

-- BEGIN "/p/tsconfig.json", baseUrl "/u/w/..", PATHS, key "*", target "../*", target "x", target "../../*", END
pub book_seen_04 :
    Answers "\u{1}\0\0\u{10}\0\t\u{10}\0\u{7}\0\n\u{b}\u{17}\0\u{1}\0\u{c}\u{18}\0\u{4}\0\u{c}\u{1c}\0\u{1}\0\u{c}\u{1d}\0\u{7}\0\u{14}" "/p/tsconfig.json/u/w/..*../*x../../*"
    ((B "/p" gets gives 0 0 "baseUrl=/u/w/..\nbase=/u/w/..\nkey=*\ntarget=/u/w/*\ntarget=/u/w/../x\ntarget=/u/*\n")
    ∷ (C "/p" "q" gets gives 3 0 "\u{6}\0/u/w/q\t\0/u/w/../x\u{4}\0/u/q")
    ∷ (C "/p" "./q" gets gives 1 0 "\t\0/u/w/../q")
    ∷ (C "/p" "../q" gets gives 1 0 "\u{6}\0/u/w/q")
    ∷ (C "/p" "/abs/q" gets gives 3 0 "\u{b}\0/u/w//abs/q\t\0/u/w/../x\t\0/u//abs/q")
    ∷ (T "/p" "/p" "q" gets gives 4 0 "\u{6}\0/u/w/q\t\0/u/w/../x\u{4}\0/u/q\t\0/u/w/../q")
    ∷ (T "/p" "/p" "/abs/q" gets gives 4 0 "\u{b}\0/u/w//abs/q\t\0/u/w/../x\t\0/u//abs/q\u{6}\0/abs/q")
    ∷ [])
unfolding tell
book_seen_04 = refl

-- BEGIN "/p/tsconfig.json", baseUrl "//u//w", PATHS, key "*", target "../*", target "x", target "../../*", END
pub book_seen_05 :
    Answers "\u{1}\0\0\u{10}\0\t\u{10}\0\u{6}\0\n\u{b}\u{16}\0\u{1}\0\u{c}\u{17}\0\u{4}\0\u{c}\u{1b}\0\u{1}\0\u{c}\u{1c}\0\u{7}\0\u{14}" "/p/tsconfig.json//u//w*../*x../../*"
    ((B "/p" gets gives 0 0 "baseUrl=//u//w\nbase=//u//w\nkey=*\ntarget=//u/*\ntarget=//u//w/x\ntarget=/*\n")
    ∷ (C "/p" "q" gets gives 3 0 "\u{5}\0//u/q\u{8}\0//u//w/x\u{2}\0/q")
    ∷ (C "/p" "./q" gets gives 1 0 "\u{8}\0//u//w/q")
    ∷ (C "/p" "../q" gets gives 1 0 "\u{5}\0//u/q")
    ∷ (C "/p" "/abs/q" gets gives 3 0 "\n\0//u//abs/q\u{8}\0//u//w/x\u{7}\0//abs/q")
    ∷ (T "/p" "/p" "q" gets gives 4 0 "\u{5}\0//u/q\u{8}\0//u//w/x\u{2}\0/q\u{8}\0//u//w/q")
    ∷ (T "/p" "/p" "/abs/q" gets gives 4 0 "\n\0//u//abs/q\u{8}\0//u//w/x\u{7}\0//abs/q\u{6}\0/abs/q")
    ∷ [])
unfolding tell
book_seen_05 = refl

-- BEGIN "/p/tsconfig.json", baseUrl "${configDir}", PATHS, key "*", target "../*", target "x", target "../../*", END
pub book_seen_06 :
    Answers "\u{1}\0\0\u{10}\0\t\u{10}\0\u{c}\0\n\u{b}\u{1c}\0\u{1}\0\u{c}\u{1d}\0\u{4}\0\u{c}!\0\u{1}\0\u{c}\"\0\u{7}\0\u{14}" "/p/tsconfig.json${configDir}*../*x../../*"
    ((B "/p" gets gives 0 0 "baseUrl=/p/\nbase=/p/\nkey=*\ntarget=/*\ntarget=/p/x\ntarget=/*\n")
    ∷ (C "/p" "q" gets gives 3 0 "\u{2}\0/q\u{4}\0/p/x\u{2}\0/q")
    ∷ (C "/p" "./q" gets gives 1 0 "\u{4}\0/p/q")
    ∷ (C "/p" "../q" gets gives 1 0 "\u{2}\0/q")
    ∷ (C "/p" "/abs/q" gets gives 3 0 "\u{7}\0//abs/q\u{4}\0/p/x\u{7}\0//abs/q")
    ∷ (T "/p" "/p" "q" gets gives 4 0 "\u{2}\0/q\u{4}\0/p/x\u{2}\0/q\u{4}\0/p/q")
    ∷ (T "/p" "/p" "/abs/q" gets gives 4 0 "\u{7}\0//abs/q\u{4}\0/p/x\u{7}\0//abs/q\u{6}\0/abs/q")
    ∷ [])
unfolding tell
book_seen_06 = refl

-- BEGIN "/p/tsconfig.json", baseUrl "${configDir}//x/../y/", PATHS, key "*", target "../*", target "x", target "../../*", END
pub book_seen_07 :
    Answers "\u{1}\0\0\u{10}\0\t\u{10}\0\u{15}\0\n\u{b}%\0\u{1}\0\u{c}&\0\u{4}\0\u{c}*\0\u{1}\0\u{c}+\0\u{7}\0\u{14}" "/p/tsconfig.json${configDir}//x/../y/*../*x../../*"
    ((B "/p" gets gives 0 0 "baseUrl=/p/x/../y/\nbase=/p/x/../y/\nkey=*\ntarget=/p/x/../*\ntarget=/p/x/../y/x\ntarget=/p/x/*\n")
    ∷ (C "/p" "q" gets gives 3 0 "\t\0/p/x/../q\u{b}\0/p/x/../y/x\u{6}\0/p/x/q")
    ∷ (C "/p" "./q" gets gives 1 0 "\u{b}\0/p/x/../y/q")
    ∷ (C "/p" "../q" gets gives 1 0 "\t\0/p/x/../q")
    ∷ (C "/p" "/abs/q" gets gives 3 0 "\u{e}\0/p/x/..//abs/q\u{b}\0/p/x/../y/x\u{b}\0/p/x//abs/q")
    ∷ (T "/p" "/p" "q" gets gives 4 0 "\t\0/p/x/../q\u{b}\0/p/x/../y/x\u{6}\0/p/x/q\u{b}\0/p/x/../y/q")
    ∷ (T "/p" "/p" "/abs/q" gets gives 4 0 "\u{e}\0/p/x/..//abs/q\u{b}\0/p/x/../y/x\u{b}\0/p/x//abs/q\u{6}\0/abs/q")
    ∷ [])
unfolding tell
book_seen_07 = refl

-- BEGIN "/p/tsconfig.json", baseUrl ".", PATHS, key "*", target "../*", target "x", target "../../*", END
pub book_seen_08 :
    Answers "\u{1}\0\0\u{10}\0\t\u{10}\0\u{1}\0\n\u{b}\u{11}\0\u{1}\0\u{c}\u{12}\0\u{4}\0\u{c}\u{16}\0\u{1}\0\u{c}\u{17}\0\u{7}\0\u{14}" "/p/tsconfig.json.*../*x../../*"
    ((B "/p" gets gives 0 0 "baseUrl=/p\nbase=/p\nkey=*\ntarget=/*\ntarget=/p/x\ntarget=/*\n")
    ∷ (C "/p" "q" gets gives 3 0 "\u{2}\0/q\u{4}\0/p/x\u{2}\0/q")
    ∷ (C "/p" "./q" gets gives 1 0 "\u{4}\0/p/q")
    ∷ (C "/p" "../q" gets gives 1 0 "\u{2}\0/q")
    ∷ (C "/p" "/abs/q" gets gives 3 0 "\u{7}\0//abs/q\u{4}\0/p/x\u{7}\0//abs/q")
    ∷ (T "/p" "/p" "q" gets gives 4 0 "\u{2}\0/q\u{4}\0/p/x\u{2}\0/q\u{4}\0/p/q")
    ∷ (T "/p" "/p" "/abs/q" gets gives 4 0 "\u{7}\0//abs/q\u{4}\0/p/x\u{7}\0//abs/q\u{6}\0/abs/q")
    ∷ [])
unfolding tell
book_seen_08 = refl

-- BEGIN "/p/tsconfig.json", baseUrl "./", PATHS, key "*", target "../*", target "x", target "../../*", END
pub book_seen_09 :
    Answers "\u{1}\0\0\u{10}\0\t\u{10}\0\u{2}\0\n\u{b}\u{12}\0\u{1}\0\u{c}\u{13}\0\u{4}\0\u{c}\u{17}\0\u{1}\0\u{c}\u{18}\0\u{7}\0\u{14}" "/p/tsconfig.json./*../*x../../*"
    ((B "/p" gets gives 0 0 "baseUrl=/p\nbase=/p\nkey=*\ntarget=/*\ntarget=/p/x\ntarget=/*\n")
    ∷ (C "/p" "q" gets gives 3 0 "\u{2}\0/q\u{4}\0/p/x\u{2}\0/q")
    ∷ (C "/p" "./q" gets gives 1 0 "\u{4}\0/p/q")
    ∷ (C "/p" "../q" gets gives 1 0 "\u{2}\0/q")
    ∷ (C "/p" "/abs/q" gets gives 3 0 "\u{7}\0//abs/q\u{4}\0/p/x\u{7}\0//abs/q")
    ∷ (T "/p" "/p" "q" gets gives 4 0 "\u{2}\0/q\u{4}\0/p/x\u{2}\0/q\u{4}\0/p/q")
    ∷ (T "/p" "/p" "/abs/q" gets gives 4 0 "\u{7}\0//abs/q\u{4}\0/p/x\u{7}\0//abs/q\u{6}\0/abs/q")
    ∷ [])
unfolding tell
book_seen_09 = refl

-- BEGIN "/p/tsconfig.json", baseUrl "..", PATHS, key "*", target "../*", target "x", target "../../*", END
pub book_seen_10 :
    Answers "\u{1}\0\0\u{10}\0\t\u{10}\0\u{2}\0\n\u{b}\u{12}\0\u{1}\0\u{c}\u{13}\0\u{4}\0\u{c}\u{17}\0\u{1}\0\u{c}\u{18}\0\u{7}\0\u{14}" "/p/tsconfig.json..*../*x../../*"
    ((B "/p" gets gives 0 0 "baseUrl=/\nbase=/\nkey=*\ntarget=/*\ntarget=/x\ntarget=/*\n")
    ∷ (C "/p" "q" gets gives 3 0 "\u{2}\0/q\u{2}\0/x\u{2}\0/q")
    ∷ (C "/p" "./q" gets gives 1 0 "\u{2}\0/q")
    ∷ (C "/p" "../q" gets gives 1 0 "\u{2}\0/q")
    ∷ (C "/p" "/abs/q" gets gives 3 0 "\u{7}\0//abs/q\u{2}\0/x\u{7}\0//abs/q")
    ∷ (T "/p" "/p" "q" gets gives 4 0 "\u{2}\0/q\u{2}\0/x\u{2}\0/q\u{2}\0/q")
    ∷ (T "/p" "/p" "/abs/q" gets gives 4 0 "\u{7}\0//abs/q\u{2}\0/x\u{7}\0//abs/q\u{6}\0/abs/q")
    ∷ [])
unfolding tell
book_seen_10 = refl

-- BEGIN "/p/tsconfig.json", baseUrl "/x*", PATHS, key "*", target "../*", target "x", target "../../*", END
pub book_seen_11 :
    Answers "\u{1}\0\0\u{10}\0\t\u{10}\0\u{3}\0\n\u{b}\u{13}\0\u{1}\0\u{c}\u{14}\0\u{4}\0\u{c}\u{18}\0\u{1}\0\u{c}\u{19}\0\u{7}\0\u{14}" "/p/tsconfig.json/x**../*x../../*"
    ((B "/p" gets gives 0 0 "baseUrl=/x*\nbase=/x*\nkey=*\ntarget=/*\ntarget=/x*/x\ntarget=/*\n")
    ∷ (C "/p" "q" gets gives 3 0 "\u{2}\0/q\u{5}\0/xq/x\u{2}\0/q")
    ∷ (C "/p" "./q" gets gives 1 0 "\u{5}\0/x*/q")
    ∷ (C "/p" "../q" gets gives 1 0 "\u{2}\0/q")
    ∷ (C "/p" "/abs/q" gets gives 3 0 "\u{7}\0//abs/q\n\0/x/abs/q/x\u{7}\0//abs/q")
    ∷ (T "/p" "/p" "q" gets gives 4 0 "\u{2}\0/q\u{5}\0/xq/x\u{2}\0/q\u{5}\0/x*/q")
    ∷ (T "/p" "/p" "/abs/q" gets gives 4 0 "\u{7}\0//abs/q\n\0/x/abs/q/x\u{7}\0//abs/q\u{6}\0/abs/q")
    ∷ [])
unfolding tell
book_seen_11 = refl

-- BEGIN "/p/tsconfig.json", INCLUDE, include "${configDir}", ROOTDIRS, rootDir "${configDir}//x/../y/", rootDir "a/", rootDir "/a/", outDir
-- "${configDir}out", declarationDir "./d/", END
pub book_seen_12 :
    Answers "\u{1}\0\0\u{10}\0\u{4}\u{5}\u{10}\0\u{c}\0\u{e}\u{f}\u{1c}\0\u{15}\0\u{f}1\0\u{2}\0\u{f}3\0\u{3}\0\u{10}6\0\u{f}\0\u{11}E\0\u{4}\0\u{14}" "/p/tsconfig.json${configDir}${configDir}//x/../y/a//a/${configDir}out./d/"
    ((B "/p" gets gives 0 0 "include=/p/\nbase=/p\nrootDir=/p/x/../y/\nrootDir=/p/a\nrootDir=/a/\noutDir=/p/out\ndeclarationDir=/p/d\n")
    ∷ (O "/p/x.ts" gets gives 0 0 "")
    ∷ (O "/p/a/x.ts" gets gives 0 0 "")
    ∷ [])
unfolding tell
book_seen_12 = refl

-- BEGIN "/tsconfig.json", FILES, file ".", INCLUDE, include "${configDir}", baseUrl "${configDir}", END
pub book_seen_13 :
    Answers "\u{1}\0\0\u{e}\0\u{2}\u{3}\u{e}\0\u{1}\0\u{4}\u{5}\u{f}\0\u{c}\0\t\u{f}\0\u{c}\0\u{14}" "/tsconfig.json.${configDir}"
    ((B "/" gets gives 0 0 "files=/\ninclude=/\nbaseUrl=/\nbase=/\n")
    ∷ (O "/" gets gives 0 0 "")
    ∷ (O "/x.ts" gets gives 0 0 "")
    ∷ (O "/a/b.ts" gets gives 0 0 "")
    ∷ [])
unfolding tell
book_seen_13 = refl

-- BEGIN "/p/tsconfig.json", INCLUDE, include "src/", include "*/", include "/p/src.d/", include "/p/lib.d", END
pub book_seen_14 :
    Answers "\u{1}\0\0\u{10}\0\u{4}\u{5}\u{10}\0\u{4}\0\u{5}\u{14}\0\u{2}\0\u{5}\u{16}\0\t\0\u{5}\u{1f}\0\u{8}\0\u{14}" "/p/tsconfig.jsonsrc/*//p/src.d//p/lib.d"
    ((B "/p" gets gives 0 0 "include=/p/src\ninclude=/p/*\ninclude=/p/src.d/\ninclude=/p/lib.d\nbase=/p\n")
    ∷ (O "/p/src/a.ts" gets gives 0 0 "")
    ∷ (O "/p/x.ts" gets gives 0 0 "")
    ∷ (O "/p/a/x.ts" gets gives 65535 65535 "")
    ∷ (O "/p/src.d/x.ts" gets gives 0 0 "")
    ∷ (O "/p/lib.d/x.ts" gets gives 65535 65535 "")
    ∷ (O "/p/lib.d" gets gives 0 0 "")
    ∷ [])
unfolding tell
book_seen_14 = refl

-- BEGIN "/p/tsconfig.json", PATHS, key "a/*", target "s/*", target "./*/../z", END
pub book_seen_15 :
    Answers "\u{1}\0\0\u{10}\0\n\u{b}\u{10}\0\u{3}\0\u{c}\u{13}\0\u{3}\0\u{c}\u{16}\0\u{8}\0\u{14}" "/p/tsconfig.jsona/*s/*./*/../z"
    ((B "/p" gets gives 0 0 "base=/p\nkey=a/*\ntarget=/p/s/*\ntarget=/p/z\n")
    ∷ (C "/p" "a/../../q" gets gives 2 0 "\u{c}\0/p/s/../../q\u{4}\0/p/z")
    ∷ (C "/p" "a/" gets gives 2 0 "\u{5}\0/p/s/\u{4}\0/p/z")
    ∷ [])
unfolding tell
book_seen_15 = refl

-- BEGIN "/a/A.json", extends "./n1", extends "./B", END, BEGIN "/a/B.json", extends "./n2", END, BEGIN "/a/C.json", extends "./nope", extends "pkg",
-- extends "", END, BEGIN "/a/D.json", extends "", extends "pkg", END, BEGIN "/a/E.json", extends ".x", extends "...", extends "..d", END
pub book_seen_16 :
    Answers "\u{1}\0\0\t\0\u{8}\t\0\u{4}\0\u{8}\r\0\u{3}\0\u{14}\u{1}\u{10}\0\t\0\u{8}\u{19}\0\u{4}\0\u{14}\u{1}\u{1d}\0\t\0\u{8}&\0\u{6}\0\u{8},\0\u{3}\0\u{8}/\0\0\0\u{14}\u{1}/\0\t\0\u{8}/\0\0\0\u{8},\0\u{3}\0\u{14}\u{1}8\0\t\0\u{8}A\0\u{2}\0\u{8}C\0\u{3}\0\u{8}F\0\u{3}\0\u{14}" "/a/A.json./n1./B/a/B.json./n2/a/C.json./nopepkg/a/D.json/a/E.json.x.....d"
    ((B "/a/A" gets refuses 8 1)
    ∷ (B "/a/C" gets refuses 12 2)
    ∷ (B "/a/D" gets refuses 11 3)
    ∷ (B "/a/E" gets refuses 8 4)
    ∷ (B "/a/A.json" gets refuses 8 1)
    ∷ (B "/a" gets refuses 8 65535)
    ∷ [])
unfolding tell
book_seen_16 = refl

-- BEGIN "/a/tsconfig.json", reference "./r", END, BEGIN "/a/r.json", extends "./q", END, BEGIN "/a/q.json", extends "./r", END
pub book_seen_17 :
    Answers "\u{1}\0\0\u{10}\0\r\u{10}\0\u{3}\0\u{14}\u{1}\u{13}\0\t\0\u{8}\u{1c}\0\u{3}\0\u{14}\u{1}\u{1f}\0\t\0\u{8}\u{10}\0\u{3}\0\u{14}" "/a/tsconfig.json./r/a/r.json./q/a/q.json"
    ((B "/a" gets refuses 9 2)
    ∷ (B "/a/r" gets refuses 9 1)
    ∷ (O "/a/x.ts" gets refuses 9 2)
    ∷ [])
unfolding tell
book_seen_17 = refl

-- BEGIN "/a/tsconfig.json", reference "./r", END, BEGIN "/a/r.json", extends "./tsconfig", END
pub book_seen_18 :
    Answers "\u{1}\0\0\u{10}\0\r\u{10}\0\u{3}\0\u{14}\u{1}\u{13}\0\t\0\u{8}\u{1c}\0\n\0\u{14}" "/a/tsconfig.json./r/a/r.json./tsconfig"
    ((B "/a" gets gives 0 0 "base=/a\nreference=./r\n")
    ∷ (B "/a/r" gets gives 1 1 "base=/a\n")
    ∷ (O "/a/x.ts" gets gives 0 1 "")
    ∷ [])
unfolding tell
book_seen_18 = refl

-- BEGIN "/a/b.json", END, BEGIN "/a/b/c.json", END, BEGIN "/a/d.json/e.json", END
pub book_seen_19 :
    Answers "\u{1}\0\0\t\0\u{14}\u{1}\t\0\u{b}\0\u{14}\u{1}\u{14}\0\u{10}\0\u{14}" "/a/b.json/a/b/c.json/a/d.json/e.json"
    ((B "/a/b" gets refuses 8 65535)
    ∷ (B "/a/b.json" gets gives 0 0 "base=/a\n")
    ∷ (B "/a/d" gets refuses 8 65535)
    ∷ (B "/a/d.json" gets refuses 8 65535)
    ∷ (B "/a/b/c" gets gives 1 0 "base=/a/b\n")
    ∷ (B "/a" gets refuses 8 65535)
    ∷ [])
unfolding tell
book_seen_19 = refl

-- BEGIN "/a/tsconfig.json", FILES, INCLUDE, reference ".", END
pub book_seen_20 :
    Answers "\u{1}\0\0\u{10}\0\u{2}\u{4}\r\u{10}\0\u{1}\0\u{14}" "/a/tsconfig.json."
    ((B "/a" gets refuses 10 0)
    ∷ (O "/a/x.ts" gets refuses 10 0)
    ∷ (C "/a" "x" gets refuses 10 0)
    ∷ (T "/a" "/a" "x" gets refuses 10 0)
    ∷ [])
unfolding tell
book_seen_20 = refl

-- BEGIN "/a/tsconfig.json", FILES, INCLUDE, reference "./tsconfig", END
pub book_seen_21 :
    Answers "\u{1}\0\0\u{10}\0\u{2}\u{4}\r\u{10}\0\n\0\u{14}" "/a/tsconfig.json./tsconfig"
    ((B "/a" gets refuses 10 0)
    ∷ (O "/a/x.ts" gets refuses 10 0)
    ∷ (C "/a" "x" gets refuses 10 0)
    ∷ (T "/a" "/a" "x" gets refuses 10 0)
    ∷ [])
unfolding tell
book_seen_21 = refl

-- BEGIN "/a/tsconfig.json", FILES, INCLUDE, reference "tsconfig.json", END
pub book_seen_22 :
    Answers "\u{1}\0\0\u{10}\0\u{2}\u{4}\r\u{10}\0\r\0\u{14}" "/a/tsconfig.jsontsconfig.json"
    ((B "/a" gets refuses 10 0)
    ∷ (O "/a/x.ts" gets refuses 10 0)
    ∷ (C "/a" "x" gets refuses 10 0)
    ∷ (T "/a" "/a" "x" gets refuses 10 0)
    ∷ [])
unfolding tell
book_seen_22 = refl

-- BEGIN "/a/tsconfig.json", FILES, INCLUDE, reference "/a", END
pub book_seen_23 :
    Answers "\u{1}\0\0\u{10}\0\u{2}\u{4}\r\u{10}\0\u{2}\0\u{14}" "/a/tsconfig.json/a"
    ((B "/a" gets refuses 10 0)
    ∷ (O "/a/x.ts" gets refuses 10 0)
    ∷ (C "/a" "x" gets refuses 10 0)
    ∷ (T "/a" "/a" "x" gets refuses 10 0)
    ∷ [])
unfolding tell
book_seen_23 = refl

-- BEGIN "/a/tsconfig.json", FILES, INCLUDE, reference "", END
pub book_seen_24 :
    Answers "\u{1}\0\0\u{10}\0\u{2}\u{4}\r\u{10}\0\0\0\u{14}" "/a/tsconfig.json"
    ((B "/a" gets refuses 8 0)
    ∷ (O "/a/x.ts" gets refuses 8 0)
    ∷ (C "/a" "x" gets refuses 8 0)
    ∷ (T "/a" "/a" "x" gets refuses 8 0)
    ∷ [])
unfolding tell
book_seen_24 = refl

-- BEGIN "/a/tsconfig.json", FILES, INCLUDE, reference "./none", END
pub book_seen_25 :
    Answers "\u{1}\0\0\u{10}\0\u{2}\u{4}\r\u{10}\0\u{6}\0\u{14}" "/a/tsconfig.json./none"
    ((B "/a" gets refuses 8 0)
    ∷ (O "/a/x.ts" gets refuses 8 0)
    ∷ (C "/a" "x" gets refuses 8 0)
    ∷ (T "/a" "/a" "x" gets refuses 8 0)
    ∷ [])
unfolding tell
book_seen_25 = refl

-- BEGIN "/a/tsconfig.json", FILES, INCLUDE, reference "/", END
pub book_seen_26 :
    Answers "\u{1}\0\0\u{10}\0\u{2}\u{4}\r\u{10}\0\u{1}\0\u{14}" "/a/tsconfig.json/"
    ((B "/a" gets refuses 8 0)
    ∷ (O "/a/x.ts" gets refuses 8 0)
    ∷ (C "/a" "x" gets refuses 8 0)
    ∷ (T "/a" "/a" "x" gets refuses 8 0)
    ∷ [])
unfolding tell
book_seen_26 = refl

-- BEGIN "/tsconfig.json", END, BEGIN "/a/tsconfig.json", reference "", END
pub book_seen_27 :
    Answers "\u{1}\0\0\u{e}\0\u{14}\u{1}\u{e}\0\u{10}\0\r\u{1e}\0\0\0\u{14}" "/tsconfig.json/a/tsconfig.json"
    ((B "/a" gets refuses 8 1)
    ∷ (B "/" gets gives 0 0 "base=/\n")
    ∷ (O "/a/x.ts" gets refuses 8 1)
    ∷ (O "/b.ts" gets gives 0 0 "")
    ∷ [])
unfolding tell
book_seen_27 = refl

-- BEGIN "/a/A.json", extends "./B", extends "./C", extends "./B.json", END, BEGIN "/a/B.json", extends "./D", END, BEGIN "/a/C.json", extends
-- "./D.json", END, BEGIN "/a/D.json", END
pub book_seen_28 :
    Answers "\u{1}\0\0\t\0\u{8}\t\0\u{3}\0\u{8}\u{c}\0\u{3}\0\u{8}\u{f}\0\u{8}\0\u{14}\u{1}\u{17}\0\t\0\u{8} \0\u{3}\0\u{14}\u{1}#\0\t\0\u{8},\0\u{8}\0\u{14}\u{1}4\0\t\0\u{14}" "/a/A.json./B./C./B.json/a/B.json./D/a/C.json./D.json/a/D.json"
    ((B "/a/A" gets gives 0 5 "base=/a\n")
    ∷ (B "/a/B" gets gives 1 1 "base=/a\n")
    ∷ [])
unfolding tell
book_seen_28 = refl

-- BEGIN "/a/x/tsconfig.json", extends "../y/b.json", PATHS, END, BEGIN "/a/y/b.json", END, BEGIN "/a/z/tsconfig.json", extends "../y/c", PATHS, key "k",
-- target "t", END, BEGIN "/a/y/c.json", baseUrl "u", END, BEGIN "/a/w/tsconfig.json", extends "../y/b", extends "../y/c", END
pub book_seen_29 :
    Answers "\u{1}\0\0\u{12}\0\u{8}\u{12}\0\u{b}\0\n\u{14}\u{1}\u{1d}\0\u{b}\0\u{14}\u{1}(\0\u{12}\0\u{8}:\0\u{6}\0\n\u{b}@\0\u{1}\0\u{c}A\0\u{1}\0\u{14}\u{1}B\0\u{b}\0\tM\0\u{1}\0\u{14}\u{1}N\0\u{12}\0\u{8}`\0\u{6}\0\u{8}:\0\u{6}\0\u{14}" "/a/x/tsconfig.json../y/b.json/a/y/b.json/a/z/tsconfig.json../y/ckt/a/y/c.jsonu/a/w/tsconfig.json../y/b"
    ((B "/a/x" gets gives 0 1 "base=/a/x\npaths\n")
    ∷ (B "/a/z" gets gives 2 1 "baseUrl=/a/z/u\nbase=/a/y/u\nkey=k\ntarget=/a/y/u/t\n")
    ∷ (C "/a/z" "k" gets gives 1 0 "\u{8}\0/a/y/u/t")
    ∷ (C "/a/z" "other" gets gives 1 0 "\u{c}\0/a/y/u/other")
    ∷ (B "/a/w" gets gives 4 2 "baseUrl=/a/w/u\nbase=/a/y/u\n")
    ∷ (T "/a/z" "/a" "k" gets gives 2 0 "\u{8}\0/a/y/u/t\u{8}\0/a/y/u/k")
    ∷ [])
unfolding tell
book_seen_29 = refl

-- BEGIN "/p/tsconfig.json", baseUrl "u", PATHS, key "ab", key "a*", target "w/*", key "abc*", key "a*c", target "v/*", key "x*b*", target "*/*", key
-- "*", target "all/*", key "./x", target "dot", key ".*", target "dots", END
pub book_seen_30 :
    Answers "\u{1}\0\0\u{10}\0\t\u{10}\0\u{1}\0\n\u{b}\u{11}\0\u{2}\0\u{b}\u{13}\0\u{2}\0\u{c}\u{15}\0\u{3}\0\u{b}\u{18}\0\u{4}\0\u{b}\u{1c}\0\u{3}\0\u{c}\u{1f}\0\u{3}\0\u{b}\"\0\u{4}\0\u{c}&\0\u{3}\0\u{b})\0\u{1}\0\u{c}*\0\u{5}\0\u{b}/\0\u{3}\0\u{c}2\0\u{3}\0\u{b}5\0\u{2}\0\u{c}7\0\u{4}\0\u{14}" "/p/tsconfig.jsonuaba*w/*abc*a*cv/*x*b**/**all/*./xdot.*dots"
    ((C "/p" "ab" gets gives 1 0 "\u{7}\0/p/u/ab")
    ∷ (C "/p" "abcd" gets gives 1 0 "\t\0/p/u/abcd")
    ∷ (C "/p" "abd" gets gives 1 0 "\t\0/p/u/w/bd")
    ∷ (C "/p" "axc" gets gives 1 0 "\t\0/p/u/w/xc")
    ∷ (C "/p" "xyb*" gets gives 1 0 "\u{8}\0/p/u/y/*")
    ∷ (C "/p" "xb*" gets gives 1 0 "\u{7}\0/p/u//*")
    ∷ (C "/p" "./x" gets gives 1 0 "\u{6}\0/p/u/x")
    ∷ (C "/p" "q" gets gives 1 0 "\n\0/p/u/all/q")
    ∷ (T "/p" "/p" "ab" gets gives 1 0 "\u{7}\0/p/u/ab")
    ∷ (T "/p" "/p" "abd" gets gives 2 0 "\t\0/p/u/w/bd\u{8}\0/p/u/abd")
    ∷ (C "/p" "x" gets gives 1 0 "\n\0/p/u/all/x")
    ∷ (T "/p" "/p" "./x" gets gives 0 0 "")
    ∷ [])
unfolding tell
book_seen_30 = refl

-- BEGIN "/p/tsconfig.json", PATHS, key "ab*bc", target "1", key "a*", target "2", END
pub book_seen_31 :
    Answers "\u{1}\0\0\u{10}\0\n\u{b}\u{10}\0\u{5}\0\u{c}\u{15}\0\u{1}\0\u{b}\u{16}\0\u{2}\0\u{c}\u{18}\0\u{1}\0\u{14}" "/p/tsconfig.jsonab*bc1a*2"
    ((C "/p" "abc" gets gives 1 0 "\u{4}\0/p/2")
    ∷ (C "/p" "abbc" gets gives 1 0 "\u{4}\0/p/1")
    ∷ (C "/p" "abxbc" gets gives 1 0 "\u{4}\0/p/1")
    ∷ (C "/p" "b" gets gives 0 0 "")
    ∷ [])
unfolding tell
book_seen_31 = refl

-- BEGIN "/p/tsconfig.json", ROOTDIRS, rootDir "/p/src", rootDir "/p/src/", rootDir "/p/gen", rootDir "/p/gen/", END
pub book_seen_32 :
    Answers "\u{1}\0\0\u{10}\0\u{e}\u{f}\u{10}\0\u{6}\0\u{f}\u{16}\0\u{7}\0\u{f}\u{1d}\0\u{6}\0\u{f}#\0\u{7}\0\u{14}" "/p/tsconfig.json/p/src/p/src//p/gen/p/gen/"
    ((T "/p" "/p/src" "./x" gets gives 3 0 "\u{8}\0/p/src/x\u{8}\0/p/gen/x\u{8}\0/p/gen/x")
    ∷ (T "/p" "/p/gen" "./x" gets gives 3 0 "\u{8}\0/p/gen/x\u{8}\0/p/src/x\u{8}\0/p/src/x")
    ∷ (T "/p" "/p/src" ".." gets gives 0 0 "")
    ∷ [])
unfolding tell
book_seen_32 = refl

-- BEGIN "/p/tsconfig.json", ROOTDIRS, rootDir "", rootDir "/q", END
pub book_seen_33 :
    Answers "\u{1}\0\0\u{10}\0\u{e}\u{f}\u{10}\0\0\0\u{f}\u{10}\0\u{2}\0\u{14}" "/p/tsconfig.json/q"
    ((T "/p" "/q" "./x" gets gives 2 0 "\u{4}\0/q/x\u{1}\0x")
    ∷ (T "/p" "/z" "./x" gets gives 2 0 "\u{4}\0/z/x\u{4}\0/z/x")
    ∷ (T "/p" "/q" "." gets gives 2 0 "\u{2}\0/q\0\0")
    ∷ (B "/p" gets gives 0 0 "base=/p\nrootDir=\nrootDir=/q\n")
    ∷ [])
unfolding tell
book_seen_33 = refl

-- BEGIN "/p/tsconfig.json", ROOTDIRS, rootDir "", rootDir "/", END
pub book_seen_34 :
    Answers "\u{1}\0\0\u{10}\0\u{e}\u{f}\u{10}\0\0\0\u{f}\u{10}\0\u{1}\0\u{14}" "/p/tsconfig.json/"
    ((T "/p" "/q" "./x" gets gives 2 0 "\u{4}\0/q/x\u{3}\0q/x")
    ∷ (T "/p" "/" "." gets gives 2 0 "\u{1}\0/\0\0")
    ∷ (T "/p" "/" "./y" gets gives 2 0 "\u{2}\0/y\u{1}\0y")
    ∷ [])
unfolding tell
book_seen_34 = refl

-- BEGIN "/p/tsconfig.json", ROOTDIRS, rootDir "${configDir}/../q", rootDir "/q/./r", rootDir "/q//s", END
pub book_seen_35 :
    Answers "\u{1}\0\0\u{10}\0\u{e}\u{f}\u{10}\0\u{11}\0\u{f}!\0\u{6}\0\u{f}'\0\u{5}\0\u{14}" "/p/tsconfig.json${configDir}/../q/q/./r/q//s"
    ((T "/p" "/q" "./x" gets gives 0 0 "")
    ∷ (T "/p" "/q/r" "./x" gets gives 3 0 "\u{6}\0/q/r/x\t\0/p/../q/x\u{7}\0/q//s/x")
    ∷ (T "/p" "/q/s" "./x" gets gives 3 0 "\u{6}\0/q/s/x\t\0/p/../q/x\u{8}\0/q/./r/x")
    ∷ (B "/p" gets gives 0 0 "base=/p\nrootDir=/p/../q\nrootDir=/q/./r\nrootDir=/q//s\n")
    ∷ [])
unfolding tell
book_seen_35 = refl

-- BEGIN "/p/tsconfig.json", INCLUDE, include "**/*.vue", EXCLUDE, exclude "src", exclude "**/*", END
pub book_seen_36 :
    Answers "\u{1}\0\0\u{10}\0\u{4}\u{5}\u{10}\0\u{8}\0\u{6}\u{7}\u{18}\0\u{3}\0\u{7}\u{1b}\0\u{4}\0\u{14}" "/p/tsconfig.json**/*.vuesrc**/*"
    ((O "/p/src/a.vue" gets gives 0 0 "")
    ∷ (O "/p/a.vue" gets gives 0 0 "")
    ∷ (O "/p/src/a.ts" gets gives 65535 65535 "")
    ∷ [])
unfolding tell
book_seen_36 = refl

-- BEGIN "/p/tsconfig.json", INCLUDE, include "src.d", include ".h", include "s?c", include "x.*", include "*.", include "*.TS", include "*.js", include
-- "a?", END
pub book_seen_37 :
    Answers "\u{1}\0\0\u{10}\0\u{4}\u{5}\u{10}\0\u{5}\0\u{5}\u{15}\0\u{2}\0\u{5}\u{17}\0\u{3}\0\u{5}\u{1a}\0\u{3}\0\u{5}\u{1d}\0\u{2}\0\u{5}\u{1f}\0\u{4}\0\u{5}#\0\u{4}\0\u{5}'\0\u{2}\0\u{14}" "/p/tsconfig.jsonsrc.d.hs?cx.**.*.TS*.jsa?"
    ((O "/p/src.d" gets gives 0 0 "")
    ∷ (O "/p/src.d/a.ts" gets gives 65535 65535 "")
    ∷ (O "/p/x.*" gets gives 0 0 "")
    ∷ (O "/p/x.vue" gets gives 65535 65535 "")
    ∷ (O "/p/x.ts" gets gives 0 0 "")
    ∷ (O "/p/x." gets gives 0 0 "")
    ∷ (O "/p/x.TS" gets gives 0 0 "")
    ∷ (O "/p/x.js" gets gives 65535 65535 "")
    ∷ (O "/p/ab" gets gives 65535 65535 "")
    ∷ (O "/p/sxc/a.ts" gets gives 65535 65535 "")
    ∷ (O "/p/.h" gets gives 65535 65535 "")
    ∷ [])
unfolding tell
book_seen_37 = refl

-- BEGIN "/p/tsconfig.json", FILES, file "k.js", file "noext", file "./k.ts", file "/p/./l.ts", file "//p/m.ts", file "/p/n.ts/", file ".", END
pub book_seen_38 :
    Answers "\u{1}\0\0\u{10}\0\u{2}\u{3}\u{10}\0\u{4}\0\u{3}\u{14}\0\u{5}\0\u{3}\u{19}\0\u{6}\0\u{3}\u{1f}\0\t\0\u{3}(\0\u{8}\0\u{3}0\0\u{8}\0\u{3}8\0\u{1}\0\u{14}" "/p/tsconfig.jsonk.jsnoext./k.ts/p/./l.ts//p/m.ts/p/n.ts/."
    ((O "/p/k.js" gets gives 0 0 "")
    ∷ (O "/p/noext" gets gives 0 0 "")
    ∷ (O "/p/k.ts" gets gives 0 0 "")
    ∷ (O "/p/l.ts" gets gives 0 0 "")
    ∷ (O "/p/m.ts" gets gives 0 0 "")
    ∷ (O "/p/n.ts" gets gives 0 0 "")
    ∷ (O "/p" gets gives 0 0 "")
    ∷ (O "/p/z.ts" gets gives 65535 65535 "")
    ∷ (B "/p" gets gives 0 0 "files=/p/k.js\nfiles=/p/noext\nfiles=/p/k.ts\nfiles=/p/./l.ts\nfiles=//p/m.ts\nfiles=/p/n.ts/\nfiles=/p\nbase=/p\n")
    ∷ [])
unfolding tell
book_seen_38 = refl

-- BEGIN "/p/tsconfig.json", INCLUDE, include "/p/./k.ts", include "//p/k.ts", include "/p/k.ts/", include "", END
pub book_seen_39 :
    Answers "\u{1}\0\0\u{10}\0\u{4}\u{5}\u{10}\0\t\0\u{5}\u{19}\0\u{8}\0\u{5}!\0\u{8}\0\u{5})\0\0\0\u{14}" "/p/tsconfig.json/p/./k.ts//p/k.ts/p/k.ts/"
    ((O "/p/k.ts" gets gives 0 0 "")
    ∷ (O "/q/k.ts" gets gives 65535 65535 "")
    ∷ (O "/p/x.js" gets gives 65535 65535 "")
    ∷ [])
unfolding tell
book_seen_39 = refl

-- BEGIN "/p/tsconfig.json", INCLUDE, include "", END
pub book_seen_40 :
    Answers "\u{1}\0\0\u{10}\0\u{4}\u{5}\u{10}\0\0\0\u{14}" "/p/tsconfig.json"
    ((O "/p/z.ts" gets gives 0 0 "")
    ∷ (O "/q/z.ts" gets gives 65535 65535 "")
    ∷ (O "/z.ts" gets gives 65535 65535 "")
    ∷ [])
unfolding tell
book_seen_40 = refl

-- BEGIN "/p/tsconfig.json", FILES, END
pub book_seen_41 :
    Answers "\u{1}\0\0\u{10}\0\u{2}\u{14}" "/p/tsconfig.json"
    ((O "/p/z.ts" gets gives 65535 65535 "")
    ∷ [])
unfolding tell
book_seen_41 = refl

-- BEGIN "/p/tsconfig.json", FILES, INCLUDE, include "*", END
pub book_seen_42 :
    Answers "\u{1}\0\0\u{10}\0\u{2}\u{4}\u{5}\u{10}\0\u{1}\0\u{14}" "/p/tsconfig.json*"
    ((O "/p/z.ts" gets gives 0 0 "")
    ∷ (O "/p/a/z.ts" gets gives 65535 65535 "")
    ∷ [])
unfolding tell
book_seen_42 = refl

-- BEGIN "/p/tsconfig.json", flag 8 1, END
pub book_seen_43 :
    Answers "\u{1}\0\0\u{10}\0\u{12}\u{8}\u{1}\u{14}" "/p/tsconfig.json"
    ((O "/p/a.js" gets gives 0 0 "")
    ∷ (O "/p/a.mjs" gets gives 0 0 "")
    ∷ (O "/p/.ts" gets gives 65535 65535 "")
    ∷ (O "/p/..ts" gets gives 0 0 "")
    ∷ (O "/p/.x.ts" gets gives 0 0 "")
    ∷ (O "/p/a.json" gets gives 65535 65535 "")
    ∷ (O "/p/tsconfig.json" gets gives 65535 65535 "")
    ∷ (O "/p/tsconfig.json/x.ts" gets gives 0 0 "")
    ∷ (O "/p" gets gives 65535 65535 "")
    ∷ (O "/pp/a.ts" gets gives 65535 65535 "")
    ∷ (O "/p/node_modules/a.ts" gets gives 65535 65535 "")
    ∷ (O "/p/node_modules" gets gives 65535 65535 "")
    ∷ (O "/p/node_modulesx/a.ts" gets gives 0 0 "")
    ∷ [])
unfolding tell
book_seen_43 = refl

-- BEGIN "/p/tsconfig.json", INCLUDE, include "src", reference "./r", reference "./s", END, BEGIN "/p/r.json", INCLUDE, include "src/r", END, BEGIN
-- "/p/s.json", INCLUDE, include "src/r", include "src/s", include "t", reference "./nowhere", END
pub book_seen_44 :
    Answers "\u{1}\0\0\u{10}\0\u{4}\u{5}\u{10}\0\u{3}\0\r\u{13}\0\u{3}\0\r\u{16}\0\u{3}\0\u{14}\u{1}\u{19}\0\t\0\u{4}\u{5}\"\0\u{5}\0\u{14}\u{1}'\0\t\0\u{4}\u{5}\"\0\u{5}\0\u{5}0\0\u{5}\0\u{5}5\0\u{1}\0\r6\0\t\0\u{14}" "/p/tsconfig.jsonsrc./r./s/p/r.jsonsrc/r/p/s.jsonsrc/st./nowhere"
    ((O "/p/src/a.ts" gets gives 0 0 "")
    ∷ (O "/p/src/r/a.ts" gets gives 0 1 "")
    ∷ (O "/p/src/s/a.ts" gets gives 0 2 "")
    ∷ (O "/p/t/a.ts" gets gives 0 2 "")
    ∷ (O "/p/u/a.ts" gets gives 65535 65535 "")
    ∷ (B "/p" gets gives 0 0 "include=/p/src\nbase=/p\nreference=./r\nreference=./s\n")
    ∷ (B "/p/s" gets refuses 8 2)
    ∷ [])
unfolding tell
book_seen_44 = refl

-- BEGIN "/a/tsconfig.json", FILES, INCLUDE, reference "./r.json", END, BEGIN "/a/r.json", INCLUDE, include "b", END, BEGIN "/a/b/tsconfig.json",
-- INCLUDE, include "nothing", reference "../tsconfig.json", END
pub book_seen_45 :
    Answers "\u{1}\0\0\u{10}\0\u{2}\u{4}\r\u{10}\0\u{8}\0\u{14}\u{1}\u{18}\0\t\0\u{4}\u{5}!\0\u{1}\0\u{14}\u{1}\"\0\u{12}\0\u{4}\u{5}4\0\u{7}\0\r;\0\u{10}\0\u{14}" "/a/tsconfig.json./r.json/a/r.jsonb/a/b/tsconfig.jsonnothing../tsconfig.json"
    ((O "/a/b/x.ts" gets gives 0 1 "")
    ∷ (O "/a/x.ts" gets gives 65535 65535 "")
    ∷ (B "/a/b" gets gives 2 0 "include=/a/b/nothing\nbase=/a/b\nreference=../tsconfig.json\n")
    ∷ [])
unfolding tell
book_seen_45 = refl

-- BEGIN "/a/base.json", FILES, file "f.ts", INCLUDE, include "src", EXCLUDE, exclude "src/x", baseUrl "u", PATHS, key "k", target "t", target
-- "${configDir}/t", ROOTDIRS, rootDir "src", rootDir "${configDir}/g", outDir "o", declarationDir "${configDir}", flag 0 1, flag 10 0, text 0 "", text 6
-- "${configDir}", END, BEGIN "/a/b/tsconfig.json", extends "../base", END
pub book_seen_46 :
    Answers "\u{1}\0\0\u{c}\0\u{2}\u{3}\u{c}\0\u{4}\0\u{4}\u{5}\u{10}\0\u{3}\0\u{6}\u{7}\u{13}\0\u{5}\0\t\u{18}\0\u{1}\0\n\u{b}\u{19}\0\u{1}\0\u{c}\u{1a}\0\u{1}\0\u{c}\u{1b}\0\u{e}\0\u{e}\u{f}\u{10}\0\u{3}\0\u{f})\0\u{e}\0\u{10}7\0\u{1}\0\u{11}8\0\u{c}\0\u{12}\0\u{1}\u{12}\n\0\u{13}\0D\0\0\0\u{13}\u{6}8\0\u{c}\0\u{14}\u{1}D\0\u{12}\0\u{8}V\0\u{7}\0\u{14}" "/a/base.jsonf.tssrcsrc/xukt${configDir}/t${configDir}/go${configDir}/a/b/tsconfig.json../base"
    ((B "/a/b" gets gives 1 1 "files=/a/b/f.ts\ninclude=/a/b/src\nexclude=/a/b/src/x\nbaseUrl=/a/b/u\nbase=/a/u\nkey=k\ntarget=/a/u/t\ntarget=/a/b/t\nrootDir=/a/src\nrootDir=/a/b/g\noutDir=/a/o\ndeclarationDir=/a/b/\nflag 0=1\nflag 10=0\ntext 0=\ntext 6=${configDir}\n")
    ∷ (B "/a/base" gets gives 0 0 "files=/a/f.ts\ninclude=/a/src\nexclude=/a/src/x\nbaseUrl=/a/u\nbase=/a/u\nkey=k\ntarget=/a/u/t\ntarget=/a/t\nrootDir=/a/src\nrootDir=/a/g\noutDir=/a/o\ndeclarationDir=/a/\nflag 0=1\nflag 10=0\ntext 0=\ntext 6=${configDir}\n")
    ∷ (O "/a/b/src/x.ts" gets gives 1 1 "")
    ∷ (O "/a/b/src/x/y.ts" gets gives 65535 65535 "")
    ∷ (O "/a/b/f.ts" gets gives 1 1 "")
    ∷ (O "/a/f.ts" gets gives 65535 65535 "")
    ∷ (C "/a/b" "k" gets gives 2 0 "\u{6}\0/a/u/t\u{6}\0/a/b/t")
    ∷ (C "/a/b" "z" gets gives 1 0 "\u{6}\0/a/u/z")
    ∷ (T "/a/b" "/a/src" "./x" gets gives 2 0 "\u{8}\0/a/src/x\u{8}\0/a/b/g/x")
    ∷ (T "/a/b" "/a/node_modules/z" "k" gets gives 0 0 "")
    ∷ [])
unfolding tell
book_seen_46 = refl

-- BEGIN "/a/tsconfig.json", extends "./none", END, BEGIN "/a/b/tsconfig.json", INCLUDE, include "x", END
pub book_seen_47 :
    Answers "\u{1}\0\0\u{10}\0\u{8}\u{10}\0\u{6}\0\u{14}\u{1}\u{16}\0\u{12}\0\u{4}\u{5}(\0\u{1}\0\u{14}" "/a/tsconfig.json./none/a/b/tsconfig.jsonx"
    ((O "/a/b/x/q.ts" gets gives 1 1 "")
    ∷ (O "/a/b/y.ts" gets refuses 8 0)
    ∷ (O "/c.ts" gets gives 65535 65535 "")
    ∷ (O "/a/node_modules/q.ts" gets gives 65535 65535 "")
    ∷ (T "/a" "/a/node_modules" "q" gets refuses 8 0)
    ∷ (T "/a/b" "/a/node_modules" "q" gets gives 0 0 "")
    ∷ [])
unfolding tell
book_seen_47 = refl

-- BEGIN "/p/tsconfig.json", END
pub book_seen_48 :
    Answers "\u{1}\0\0\u{10}\0\u{14}" "/p/tsconfig.json"
    ((B "p" gets refuses 7 0)
    ∷ (B "/p/" gets refuses 7 0)
    ∷ (B "//p" gets refuses 7 0)
    ∷ (B "/p/../p" gets refuses 7 0)
    ∷ (B "/p?" gets refuses 7 0)
    ∷ (B "/p#" gets refuses 7 0)
    ∷ (B "/p\\x" gets refuses 7 0)
    ∷ (C "/p" "a\\b" gets refuses 7 0)
    ∷ (C "/p" "xxxxxxxxxxxxxxxxxxxxxxxxxxxxxxxxxxxxxxxxxxxxxxxxxxxxxxxxxxxxxxxxxxxxxxxxxxxxxxxxxxxxxxxxxxxxxxxxxxxxxxxxxxxxxxxxxxxxxxxxxxxxxxxxxxxxxxxxxxxxxxxxxxxxxxxxxxxxxxxxxxxxxxxxxxxxxxxxxxxxxxxxxxxxxxxxxxxxxxxxxxxxxxxxxxxxxxxxxxxxxxxxxxxxxxxxxxxxxxxxxxxxxxxxxxxxxxxxxxxxxxxxxxxxxxxxxxxxxxxxxxxxxxxxxxxxxxxxxxxxxxxxxxxxxxxxxxxxxxxxxxxxxxxxxxxxxxxxxxxxxxxxxxxxxxxxxxxxxxxxxxxxxxxxxxxxxxxxxxxxxxxxxxxxxxxxxxxxxxxxxxxxxxxxxxxxxxxxxxxxxxxxxxxxxxxxxxxxxxxxxxxxxxxxxxxxxxxxxxxxxxxxxxxxxxxxxxxxxxxxxxxxxxxxxxxxxxxxxxxxxxxxxxxxxxxx" gets gives 0 0 "")
    ∷ (C "/p" "xxxxxxxxxxxxxxxxxxxxxxxxxxxxxxxxxxxxxxxxxxxxxxxxxxxxxxxxxxxxxxxxxxxxxxxxxxxxxxxxxxxxxxxxxxxxxxxxxxxxxxxxxxxxxxxxxxxxxxxxxxxxxxxxxxxxxxxxxxxxxxxxxxxxxxxxxxxxxxxxxxxxxxxxxxxxxxxxxxxxxxxxxxxxxxxxxxxxxxxxxxxxxxxxxxxxxxxxxxxxxxxxxxxxxxxxxxxxxxxxxxxxxxxxxxxxxxxxxxxxxxxxxxxxxxxxxxxxxxxxxxxxxxxxxxxxxxxxxxxxxxxxxxxxxxxxxxxxxxxxxxxxxxxxxxxxxxxxxxxxxxxxxxxxxxxxxxxxxxxxxxxxxxxxxxxxxxxxxxxxxxxxxxxxxxxxxxxxxxxxxxxxxxxxxxxxxxxxxxxxxxxxxxxxxxxxxxxxxxxxxxxxxxxxxxxxxxxxxxxxxxxxxxxxxxxxxxxxxxxxxxxxxxxxxxxxxxxxxxxxxxxxxxxxxxxxx" gets refuses 7 0)
    ∷ (T "/p" "/q?" "x" gets refuses 7 0)
    ∷ (T "/p" "q" "x" gets refuses 7 0)
    ∷ (O "/p/yyyyyyyyyyyyyyyyyyyyyyyyyyyyyyyyyyyyyyyyyyyyyyyyyyyyyyyyyyyyyyyyyyyyyyyyyyyyyyyyyyyyyyyyyyyyyyyyyyyyyyyyyyyyyyyyyyyyyyyyyyyyyyyyyyyyyyyyyyyyyyyyyyyyyyyyyyyyyyyyyyyyyyyyyyyyyyyyyyyyyyyyyyyyyyyyyyyyyyyyyyyyyyyyyyyyyyyyyyyyyyyyyyyyyyyyyyyyyyyyyyyyyyyyyyyyyyyyyyyyyyyyyyyyyyyyyyyyyyyyyyyyyyyyyyyyyyyyyyyyyyyyyyyyyyyyyyyyyyyyyyyyyyyyyyyyyyyyyyyyyyyyyyyyyyyyyyyyyyyyyyyyyyyyyyyyyyyyyyyyyyyyyyyyyyyyyyyyyyyyyyyyyyyyyyyyyyyyyyyyyyyyyyyyyyyyyyyyyyyyyyyyyyyyyyyyyyyyyyyyyyyyyyyyyyyyyyyyyyyyyyyyyyyyyyyyyyyyyyyyyyyyyyy.ts" gets refuses 7 0)
    ∷ (B "/none" gets refuses 8 65535)
    ∷ (O "/p/a b.ts" gets gives 0 0 "")
    ∷ (B "/p/tsconfig" gets gives 0 0 "base=/p\n")
    ∷ (B "/p/tsconfig.json" gets gives 0 0 "base=/p\n")
    ∷ [])
unfolding tell
book_seen_48 = refl

-- BEGIN "/p/tsconfig.json", FILES, INCLUDE, EXCLUDE, PATHS, ROOTDIRS, END
pub book_seen_49 :
    Answers "\u{1}\0\0\u{10}\0\u{2}\u{4}\u{6}\n\u{e}\u{14}" "/p/tsconfig.json"
    ((B "/p" gets gives 0 0 "files\ninclude\nexclude\nbase=/p\npaths\nrootDir\n")
    ∷ (C "/p" "x" gets gives 0 0 "")
    ∷ (T "/p" "/p" "./x" gets gives 0 0 "")
    ∷ (T "/p" "/p" "x" gets gives 0 0 "")
    ∷ [])
unfolding tell
book_seen_49 = refl

-- BEGIN "/p/tsconfig.json", FILES, file "", INCLUDE, include "", include "", EXCLUDE, exclude "", ROOTDIRS, rootDir "", outDir "", declarationDir "",
-- text 1 "", END
pub book_seen_50 :
    Answers "\u{1}\0\0\u{10}\0\u{2}\u{3}\u{10}\0\0\0\u{4}\u{5}\u{10}\0\0\0\u{5}\u{10}\0\0\0\u{6}\u{7}\u{10}\0\0\0\u{e}\u{f}\u{10}\0\0\0\u{10}\u{10}\0\0\0\u{11}\u{10}\0\0\0\u{13}\u{1}\u{10}\0\0\0\u{14}" "/p/tsconfig.json"
    ((B "/p" gets gives 0 0 "files=\ninclude=\ninclude=\nexclude=\nbase=/p\nrootDir=\noutDir=\ndeclarationDir=\ntext 1=\n")
    ∷ (O "/p/x.ts" gets gives 65535 65535 "")
    ∷ (O "/p" gets gives 65535 65535 "")
    ∷ [])
unfolding tell
book_seen_50 = refl

-- BEGIN "/p/tsconfig.json", ROOTDIRS, rootDir "/p////", rootDir "/p/src", rootDir "/g", END
pub book_seen_51 :
    Answers "\u{1}\0\0\u{10}\0\u{e}\u{f}\u{10}\0\u{6}\0\u{f}\u{16}\0\u{6}\0\u{f}\u{1c}\0\u{2}\0\u{14}" "/p/tsconfig.json/p/////p/src/g"
    ((T "/p" "/p/src" "./x" gets gives 3 0 "\u{8}\0/p/src/x\u{c}\0/p/src/src/x\u{8}\0/g/src/x")
    ∷ (T "/p" "/p/src/a" "../x" gets gives 3 0 "\u{8}\0/p/src/x\u{c}\0/p/src/src/x\u{8}\0/g/src/x")
    ∷ (T "/p" "/p/src" "." gets gives 3 0 "\u{6}\0/p/src\n\0/p/src/src\u{6}\0/g/src")
    ∷ [])
unfolding tell
book_seen_51 = refl

-- BEGIN "/p/tsconfig.json", ROOTDIRS, rootDir "/p/src", rootDir "/p////", rootDir "/g", END
pub book_seen_52 :
    Answers "\u{1}\0\0\u{10}\0\u{e}\u{f}\u{10}\0\u{6}\0\u{f}\u{16}\0\u{6}\0\u{f}\u{1c}\0\u{2}\0\u{14}" "/p/tsconfig.json/p/src/p/////g"
    ((T "/p" "/p/src" "./x" gets gives 3 0 "\u{8}\0/p/src/x\u{7}\0/p////x\u{4}\0/g/x")
    ∷ (T "/p" "/p" "./x" gets gives 3 0 "\u{4}\0/p/x\u{8}\0/p/src/x\u{4}\0/g/x")
    ∷ [])
unfolding tell
book_seen_52 = refl

-- BEGIN "/p/tsconfig.json", INCLUDE, include "${configDir}/z", reference "./lib", reference "./app", END, BEGIN "/p/lib/tsconfig.json", END, BEGIN
-- "/p/app/tsconfig.json", FILES, file "f.ts", INCLUDE, include "src", include "${configDir}/t", END
pub book_seen_53 :
    Answers "\u{1}\0\0\u{10}\0\u{4}\u{5}\u{10}\0\u{e}\0\r\u{1e}\0\u{5}\0\r#\0\u{5}\0\u{14}\u{1}(\0\u{14}\0\u{14}\u{1}<\0\u{14}\0\u{2}\u{3}P\0\u{4}\0\u{4}\u{5}T\0\u{3}\0\u{5}W\0\u{e}\0\u{14}" "/p/tsconfig.json${configDir}/z./lib./app/p/lib/tsconfig.json/p/app/tsconfig.jsonf.tssrc${configDir}/t"
    ((O "/p/lib/x.ts" gets gives 1 1 "")
    ∷ (O "/p/y.ts" gets gives 65535 65535 "")
    ∷ (O "/p/app/src/x.ts" gets gives 2 2 "")
    ∷ (O "/p/src/x.ts" gets gives 65535 65535 "")
    ∷ (O "/p/app/t/x.ts" gets gives 2 2 "")
    ∷ (O "/p/app/f.ts" gets gives 2 2 "")
    ∷ (O "/p/z/q.ts" gets gives 0 0 "")
    ∷ (B "/p" gets gives 0 0 "include=/p/z\nbase=/p\nreference=./lib\nreference=./app\n")
    ∷ (O "/p/lib/deep/er/x.ts" gets gives 1 1 "")
    ∷ [])
unfolding tell
book_seen_53 = refl

-- BEGIN "/aaaaaaaaaaaaaaaaaaaaaaaaaaaaaaaaaaaaaaa..", END
pub book_sizes_512 :
    Answers "\u{1}\0\0\0\u{2}\u{14}" "/aaaaaaaaaaaaaaaaaaaaaaaaaaaaaaaaaaaaaaaaaaaaaaaaaaaaaaaaaaaaaaaaaaaaaaaaaaaaaaaaaaaaaaaaaaaaaaaaaaaaaaaaaaaaaaaaaaaaaaaaaaaaaaaaaaaaaaaaaaaaaaaaaaaaaaaaaaaaaaaaaaaaaaaaaaaaaaaaaaaaaaaaaaaaaaaaaaaaaaaaaaaaaaaaaaaaaaaaaaaaaaaaaaaaaaaaaaaaaaaaaaaaaaaaaaaaaaaaaaaaaaaaaaaaaaaaaaaaaaaaaaaaaaaaaaaaaaaaaaaaaaaaaaaaaaaaaaaaaaaaaaaaaaaaaaaaaaaaaaaaaaaaaaaaaaaaaaaaaaaaaaaaaaaaaaaaaaaaaaaaaaaaaaaaaaaaaaaaaaaaaaaaaaaaaaaaaaaaaaaaaaaaaaaaaaaaaaaaaaaaaaaaaaaaaaaaaaaaaaaaaaaaaaaaaaaaaaaaaaaaaaaaaaaaaaaaaaaaaaaaaaaaaaaaaaa"
    ((B "/aaaaaaaaaaaaaaaaaaaaaaaaaaaaaaaaaaaaaaaaaaaaaaaaaaaaaaaaaaaaaaaaaaaaaaaaaaaaaaaaaaaaaaaaaaaaaaaaaaaaaaaaaaaaaaaaaaaaaaaaaaaaaaaaaaaaaaaaaaaaaaaaaaaaaaaaaaaaaaaaaaaaaaaaaaaaaaaaaaaaaaaaaaaaaaaaaaaaaaaaaaaaaaaaaaaaaaaaaaaaaaaaaaaaaaaaaaaaaaaaaaaaaaaaaaaaaaaaaaaaaaaaaaaaaaaaaaaaaaaaaaaaaaaaaaaaaaaaaaaaaaaaaaaaaaaaaaaaaaaaaaaaaaaaaaaaaaaaaaaaaaaaaaaaaaaaaaaaaaaaaaaaaaaaaaaaaaaaaaaaaaaaaaaaaaaaaaaaaaaaaaaaaaaaaaaaaaaaaaaaaaaaaaaaaaaaaaaaaaaaaaaaaaaaaaaaaaaaaaaaaaaaaaaaaaaaaaaaaaaaaaaaaaaaaaaaaaaaaaaaaaaaaaaaaaa" gets gives 0 0 "base=/\n")
    ∷ (B "/aaaaaaaaaaaaaaaaaaaaaaaaaaaaaaaaaaaaaaaaaaaaaaaaaaaaaaaaaaaaaaaaaaaaaaaaaaaaaaaaaaaaaaaaaaaaaaaaaaaaaaaaaaaaaaaaaaaaaaaaaaaaaaaaaaaaaaaaaaaaaaaaaaaaaaaaaaaaaaaaaaaaaaaaaaaaaaaaaaaaaaaaaaaaaaaaaaaaaaaaaaaaaaaaaaaaaaaaaaaaaaaaaaaaaaaaaaaaaaaaaaaaaaaaaaaaaaaaaaaaaaaaaaaaaaaaaaaaaaaaaaaaaaaaaaaaaaaaaaaaaaaaaaaaaaaaaaaaaaaaaaaaaaaaaaaaaaaaaaaaaaaaaaaaaaaaaaaaaaaaaaaaaaaaaaaaaaaaaaaaaaaaaaaaaaaaaaaaaaaaaaaaaaaaaaaaaaaaaaaaaaaaaaaaaaaaaaaaaaaaaaaaaaaaaaaaaaaaaaaaaaaaaaaaaaaaaaaaaaaaaaaaaaaaaaaaaaaaaaaaaaaaaaaaaaaa" gets refuses 7 0)
    ∷ (C "/aaaaaaaaaaaaaaaaaaaaaaaaaaaaaaaaaaaaaaaaaaaaaaaaaaaaaaaaaaaaaaaaaaaaaaaaaaaaaaaaaaaaaaaaaaaaaaaaaaaaaaaaaaaaaaaaaaaaaaaaaaaaaaaaaaaaaaaaaaaaaaaaaaaaaaaaaaaaaaaaaaaaaaaaaaaaaaaaaaaaaaaaaaaaaaaaaaaaaaaaaaaaaaaaaaaaaaaaaaaaaaaaaaaaaaaaaaaaaaaaaaaaaaaaaaaaaaaaaaaaaaaaaaaaaaaaaaaaaaaaaaaaaaaaaaaaaaaaaaaaaaaaaaaaaaaaaaaaaaaaaaaaaaaaaaaaaaaaaaaaaaaaaaaaaaaaaaaaaaaaaaaaaaaaaaaaaaaaaaaaaaaaaaaaaaaaaaaaaaaaaaaaaaaaaaaaaaaaaaaaaaaaaaaaaaaaaaaaaaaaaaaaaaaaaaaaaaaaaaaaaaaaaaaaaaaaaaaaaaaaaaaaaaaaaaaaaaaaaaaaaaaaaaaaaaa" "xxxxxxxxxxxxxxxxxxxxxxxxxxxxxxxxxxxxxxxxxxxxxxxxxxxxxxxxxxxxxxxxxxxxxxxxxxxxxxxxxxxxxxxxxxxxxxxxxxxxxxxxxxxxxxxxxxxxxxxxxxxxxxxxxxxxxxxxxxxxxxxxxxxxxxxxxxxxxxxxxxxxxxxxxxxxxxxxxxxxxxxxxxxxxxxxxxxxxxxxxxxxxxxxxxxxxxxxxxxxxxxxxxxxxxxxxxxxxxxxxxxxxxxxxxxxxxxxxxxxxxxxxxxxxxxxxxxxxxxxxxxxxxxxxxxxxxxxxxxxxxxxxxxxxxxxxxxxxxxxxxxxxxxxxxxxxxxxxxxxxxxxxxxxxxxxxxxxxxxxxxxxxxxxxxxxxxxxxxxxxxxxxxxxxxxxxxxxxxxxxxxxxxxxxxxxxxxxxxxxxxxxxxxxxxxxxxxxxxxxxxxxxxxxxxxxxxxxxxxxxxxxxxxxxxxxxxxxxxxxxxxxxxxxxxxxxxxxxxxxxxxxxxxxxxxx" gets gives 0 0 "")
    ∷ (C "/aaaaaaaaaaaaaaaaaaaaaaaaaaaaaaaaaaaaaaaaaaaaaaaaaaaaaaaaaaaaaaaaaaaaaaaaaaaaaaaaaaaaaaaaaaaaaaaaaaaaaaaaaaaaaaaaaaaaaaaaaaaaaaaaaaaaaaaaaaaaaaaaaaaaaaaaaaaaaaaaaaaaaaaaaaaaaaaaaaaaaaaaaaaaaaaaaaaaaaaaaaaaaaaaaaaaaaaaaaaaaaaaaaaaaaaaaaaaaaaaaaaaaaaaaaaaaaaaaaaaaaaaaaaaaaaaaaaaaaaaaaaaaaaaaaaaaaaaaaaaaaaaaaaaaaaaaaaaaaaaaaaaaaaaaaaaaaaaaaaaaaaaaaaaaaaaaaaaaaaaaaaaaaaaaaaaaaaaaaaaaaaaaaaaaaaaaaaaaaaaaaaaaaaaaaaaaaaaaaaaaaaaaaaaaaaaaaaaaaaaaaaaaaaaaaaaaaaaaaaaaaaaaaaaaaaaaaaaaaaaaaaaaaaaaaaaaaaaaaaaaaaaaaaaaaa" "xxxxxxxxxxxxxxxxxxxxxxxxxxxxxxxxxxxxxxxxxxxxxxxxxxxxxxxxxxxxxxxxxxxxxxxxxxxxxxxxxxxxxxxxxxxxxxxxxxxxxxxxxxxxxxxxxxxxxxxxxxxxxxxxxxxxxxxxxxxxxxxxxxxxxxxxxxxxxxxxxxxxxxxxxxxxxxxxxxxxxxxxxxxxxxxxxxxxxxxxxxxxxxxxxxxxxxxxxxxxxxxxxxxxxxxxxxxxxxxxxxxxxxxxxxxxxxxxxxxxxxxxxxxxxxxxxxxxxxxxxxxxxxxxxxxxxxxxxxxxxxxxxxxxxxxxxxxxxxxxxxxxxxxxxxxxxxxxxxxxxxxxxxxxxxxxxxxxxxxxxxxxxxxxxxxxxxxxxxxxxxxxxxxxxxxxxxxxxxxxxxxxxxxxxxxxxxxxxxxxxxxxxxxxxxxxxxxxxxxxxxxxxxxxxxxxxxxxxxxxxxxxxxxxxxxxxxxxxxxxxxxxxxxxxxxxxxxxxxxxxxxxxxxxxxxxx" gets refuses 7 0)
    ∷ [])
unfolding tell
book_sizes_512 = refl

-- BEGIN "/aaaaaaaaaaaaaaaaaaaaaaaaaaaaaaaaaaaaaaa..", END
pub book_sizes_513 :
    Answers "\u{1}\0\0\u{1}\u{2}\u{14}" "/aaaaaaaaaaaaaaaaaaaaaaaaaaaaaaaaaaaaaaaaaaaaaaaaaaaaaaaaaaaaaaaaaaaaaaaaaaaaaaaaaaaaaaaaaaaaaaaaaaaaaaaaaaaaaaaaaaaaaaaaaaaaaaaaaaaaaaaaaaaaaaaaaaaaaaaaaaaaaaaaaaaaaaaaaaaaaaaaaaaaaaaaaaaaaaaaaaaaaaaaaaaaaaaaaaaaaaaaaaaaaaaaaaaaaaaaaaaaaaaaaaaaaaaaaaaaaaaaaaaaaaaaaaaaaaaaaaaaaaaaaaaaaaaaaaaaaaaaaaaaaaaaaaaaaaaaaaaaaaaaaaaaaaaaaaaaaaaaaaaaaaaaaaaaaaaaaaaaaaaaaaaaaaaaaaaaaaaaaaaaaaaaaaaaaaaaaaaaaaaaaaaaaaaaaaaaaaaaaaaaaaaaaaaaaaaaaaaaaaaaaaaaaaaaaaaaaaaaaaaaaaaaaaaaaaaaaaaaaaaaaaaaaaaaaaaaaaaaaaaaaaaaaaaaaaaa"
    ((B "/a" gets refuses 4 0)
    ∷ [])
unfolding tell
book_sizes_513 = refl

-- BEGIN "/00", END, BEGIN "/01", END, BEGIN "/02", END, BEGIN "/03", END, BEGIN "/04", END, BEGIN "/05", END, BEGIN "/06", END, BEGIN "/07", END, BEGIN
-- "/08", END, BEGIN "/09", END, BEGIN "/10", END, BEGIN "/11", END, BEGIN "/12", END, BEGIN "/13", END, BEGIN "/14", END, BEGIN "/15", END, BEGIN "/16",
-- END, BEGIN "/17", END, BEGIN "/18", END, BEGIN "/19", END, BEGIN "/20", END, BEGIN "/21", END, BEGIN "/22", END, BEGIN "/23", END, BEGIN "/24", END,
-- BEGIN "/25", END, BEGIN "/26", END, BEGIN "/27", END, BEGIN "/28", END, BEGIN "/29", END, BEGIN "/30", END, BEGIN "/31", END, BEGIN "/32", END, BEGIN
-- "/33", END, BEGIN "/34", END, BEGIN "/35", END, BEGIN "/36", END, BEGIN "/37", END, BEGIN "/38", END, BEGIN "/39", END, BEGIN "/40", END, BEGIN "/41",
-- END, BEGIN "/42", END, BEGIN "/43", END, BEGIN "/44", END, BEGIN "/45", END, BEGIN "/46", END, BEGIN "/47", END, BEGIN "/48", END, BEGIN "/49", END,
-- BEGIN "/50", END, BEGIN "/51", END, BEGIN "/52", END, BEGIN "/53", END, BEGIN "/54", END, BEGIN "/55", END, BEGIN "/56", END, BEGIN "/57", END, BEGIN
-- "/58", END, BEGIN "/59", END, BEGIN "/60", END, BEGIN "/61", END, BEGIN "/62", END, BEGIN "/63", END
pub book_sizes_64_records :
    Answers "\u{1}\0\0\u{3}\0\u{14}\u{1}\u{3}\0\u{3}\0\u{14}\u{1}\u{6}\0\u{3}\0\u{14}\u{1}\t\0\u{3}\0\u{14}\u{1}\u{c}\0\u{3}\0\u{14}\u{1}\u{f}\0\u{3}\0\u{14}\u{1}\u{12}\0\u{3}\0\u{14}\u{1}\u{15}\0\u{3}\0\u{14}\u{1}\u{18}\0\u{3}\0\u{14}\u{1}\u{1b}\0\u{3}\0\u{14}\u{1}\u{1e}\0\u{3}\0\u{14}\u{1}!\0\u{3}\0\u{14}\u{1}$\0\u{3}\0\u{14}\u{1}'\0\u{3}\0\u{14}\u{1}*\0\u{3}\0\u{14}\u{1}-\0\u{3}\0\u{14}\u{1}0\0\u{3}\0\u{14}\u{1}3\0\u{3}\0\u{14}\u{1}6\0\u{3}\0\u{14}\u{1}9\0\u{3}\0\u{14}\u{1}<\0\u{3}\0\u{14}\u{1}?\0\u{3}\0\u{14}\u{1}B\0\u{3}\0\u{14}\u{1}E\0\u{3}\0\u{14}\u{1}H\0\u{3}\0\u{14}\u{1}K\0\u{3}\0\u{14}\u{1}N\0\u{3}\0\u{14}\u{1}Q\0\u{3}\0\u{14}\u{1}T\0\u{3}\0\u{14}\u{1}W\0\u{3}\0\u{14}\u{1}Z\0\u{3}\0\u{14}\u{1}]\0\u{3}\0\u{14}\u{1}`\0\u{3}\0\u{14}\u{1}c\0\u{3}\0\u{14}\u{1}f\0\u{3}\0\u{14}\u{1}i\0\u{3}\0\u{14}\u{1}l\0\u{3}\0\u{14}\u{1}o\0\u{3}\0\u{14}\u{1}r\0\u{3}\0\u{14}\u{1}u\0\u{3}\0\u{14}\u{1}x\0\u{3}\0\u{14}\u{1}{\0\u{3}\0\u{14}\u{1}~\0\u{3}\0\u{14}\u{1}\u{81}\0\u{3}\0\u{14}\u{1}\u{84}\0\u{3}\0\u{14}\u{1}\u{87}\0\u{3}\0\u{14}\u{1}\u{8a}\0\u{3}\0\u{14}\u{1}\u{8d}\0\u{3}\0\u{14}\u{1}\u{90}\0\u{3}\0\u{14}\u{1}\u{93}\0\u{3}\0\u{14}\u{1}\u{96}\0\u{3}\0\u{14}\u{1}\u{99}\0\u{3}\0\u{14}\u{1}\u{9c}\0\u{3}\0\u{14}\u{1}\u{9f}\0\u{3}\0\u{14}\u{1}¢\0\u{3}\0\u{14}\u{1}¥\0\u{3}\0\u{14}\u{1}¨\0\u{3}\0\u{14}\u{1}«\0\u{3}\0\u{14}\u{1}®\0\u{3}\0\u{14}\u{1}±\0\u{3}\0\u{14}\u{1}´\0\u{3}\0\u{14}\u{1}·\0\u{3}\0\u{14}\u{1}º\0\u{3}\0\u{14}\u{1}½\0\u{3}\0\u{14}" "/00/01/02/03/04/05/06/07/08/09/10/11/12/13/14/15/16/17/18/19/20/21/22/23/24/25/26/27/28/29/30/31/32/33/34/35/36/37/38/39/40/41/42/43/44/45/46/47/48/49/50/51/52/53/54/55/56/57/58/59/60/61/62/63"
    ((B "/63" gets gives 63 0 "base=/\n")
    ∷ [])
unfolding tell
book_sizes_64_records = refl

-- BEGIN "/00", END, BEGIN "/01", END, BEGIN "/02", END, BEGIN "/03", END, BEGIN "/04", END, BEGIN "/05", END, BEGIN "/06", END, BEGIN "/07", END, BEGIN
-- "/08", END, BEGIN "/09", END, BEGIN "/10", END, BEGIN "/11", END, BEGIN "/12", END, BEGIN "/13", END, BEGIN "/14", END, BEGIN "/15", END, BEGIN "/16",
-- END, BEGIN "/17", END, BEGIN "/18", END, BEGIN "/19", END, BEGIN "/20", END, BEGIN "/21", END, BEGIN "/22", END, BEGIN "/23", END, BEGIN "/24", END,
-- BEGIN "/25", END, BEGIN "/26", END, BEGIN "/27", END, BEGIN "/28", END, BEGIN "/29", END, BEGIN "/30", END, BEGIN "/31", END, BEGIN "/32", END, BEGIN
-- "/33", END, BEGIN "/34", END, BEGIN "/35", END, BEGIN "/36", END, BEGIN "/37", END, BEGIN "/38", END, BEGIN "/39", END, BEGIN "/40", END, BEGIN "/41",
-- END, BEGIN "/42", END, BEGIN "/43", END, BEGIN "/44", END, BEGIN "/45", END, BEGIN "/46", END, BEGIN "/47", END, BEGIN "/48", END, BEGIN "/49", END,
-- BEGIN "/50", END, BEGIN "/51", END, BEGIN "/52", END, BEGIN "/53", END, BEGIN "/54", END, BEGIN "/55", END, BEGIN "/56", END, BEGIN "/57", END, BEGIN
-- "/58", END, BEGIN "/59", END, BEGIN "/60", END, BEGIN "/61", END, BEGIN "/62", END, BEGIN "/63", END, BEGIN "/64", END
pub book_sizes_65_records :
    Answers "\u{1}\0\0\u{3}\0\u{14}\u{1}\u{3}\0\u{3}\0\u{14}\u{1}\u{6}\0\u{3}\0\u{14}\u{1}\t\0\u{3}\0\u{14}\u{1}\u{c}\0\u{3}\0\u{14}\u{1}\u{f}\0\u{3}\0\u{14}\u{1}\u{12}\0\u{3}\0\u{14}\u{1}\u{15}\0\u{3}\0\u{14}\u{1}\u{18}\0\u{3}\0\u{14}\u{1}\u{1b}\0\u{3}\0\u{14}\u{1}\u{1e}\0\u{3}\0\u{14}\u{1}!\0\u{3}\0\u{14}\u{1}$\0\u{3}\0\u{14}\u{1}'\0\u{3}\0\u{14}\u{1}*\0\u{3}\0\u{14}\u{1}-\0\u{3}\0\u{14}\u{1}0\0\u{3}\0\u{14}\u{1}3\0\u{3}\0\u{14}\u{1}6\0\u{3}\0\u{14}\u{1}9\0\u{3}\0\u{14}\u{1}<\0\u{3}\0\u{14}\u{1}?\0\u{3}\0\u{14}\u{1}B\0\u{3}\0\u{14}\u{1}E\0\u{3}\0\u{14}\u{1}H\0\u{3}\0\u{14}\u{1}K\0\u{3}\0\u{14}\u{1}N\0\u{3}\0\u{14}\u{1}Q\0\u{3}\0\u{14}\u{1}T\0\u{3}\0\u{14}\u{1}W\0\u{3}\0\u{14}\u{1}Z\0\u{3}\0\u{14}\u{1}]\0\u{3}\0\u{14}\u{1}`\0\u{3}\0\u{14}\u{1}c\0\u{3}\0\u{14}\u{1}f\0\u{3}\0\u{14}\u{1}i\0\u{3}\0\u{14}\u{1}l\0\u{3}\0\u{14}\u{1}o\0\u{3}\0\u{14}\u{1}r\0\u{3}\0\u{14}\u{1}u\0\u{3}\0\u{14}\u{1}x\0\u{3}\0\u{14}\u{1}{\0\u{3}\0\u{14}\u{1}~\0\u{3}\0\u{14}\u{1}\u{81}\0\u{3}\0\u{14}\u{1}\u{84}\0\u{3}\0\u{14}\u{1}\u{87}\0\u{3}\0\u{14}\u{1}\u{8a}\0\u{3}\0\u{14}\u{1}\u{8d}\0\u{3}\0\u{14}\u{1}\u{90}\0\u{3}\0\u{14}\u{1}\u{93}\0\u{3}\0\u{14}\u{1}\u{96}\0\u{3}\0\u{14}\u{1}\u{99}\0\u{3}\0\u{14}\u{1}\u{9c}\0\u{3}\0\u{14}\u{1}\u{9f}\0\u{3}\0\u{14}\u{1}¢\0\u{3}\0\u{14}\u{1}¥\0\u{3}\0\u{14}\u{1}¨\0\u{3}\0\u{14}\u{1}«\0\u{3}\0\u{14}\u{1}®\0\u{3}\0\u{14}\u{1}±\0\u{3}\0\u{14}\u{1}´\0\u{3}\0\u{14}\u{1}·\0\u{3}\0\u{14}\u{1}º\0\u{3}\0\u{14}\u{1}½\0\u{3}\0\u{14}\u{1}À\0\u{3}\0\u{14}" "/00/01/02/03/04/05/06/07/08/09/10/11/12/13/14/15/16/17/18/19/20/21/22/23/24/25/26/27/28/29/30/31/32/33/34/35/36/37/38/39/40/41/42/43/44/45/46/47/48/49/50/51/52/53/54/55/56/57/58/59/60/61/62/63/64"
    ((B "/63" gets refuses 5 384)
    ∷ [])
unfolding tell
book_sizes_65_records = refl

-- BEGIN "/00", END, BEGIN "/01", END, BEGIN "/02", END, BEGIN "/03", END, BEGIN "/04", END, BEGIN "/05", END, BEGIN "/06", END, BEGIN "/07", END, BEGIN
-- "/08", END, BEGIN "/09", END, BEGIN "/10", END, BEGIN "/11", END, BEGIN "/12", END, BEGIN "/13", END, BEGIN "/14", END, BEGIN "/15", END, BEGIN "/16",
-- END, BEGIN "/17", END, BEGIN "/18", END, BEGIN "/19", END, BEGIN "/20", END, BEGIN "/21", END, BEGIN "/22", END, BEGIN "/23", END, BEGIN "/24", END,
-- BEGIN "/25", END, BEGIN "/26", END, BEGIN "/27", END, BEGIN "/28", END, BEGIN "/29", END, BEGIN "/30", END, BEGIN "/31", END, BEGIN "/32", END, BEGIN
-- "/33", END, BEGIN "/34", END, BEGIN "/35", END, BEGIN "/36", END, BEGIN "/37", END, BEGIN "/38", END, BEGIN "/39", END, BEGIN "/40", END, BEGIN "/41",
-- END, BEGIN "/42", END, BEGIN "/43", END, BEGIN "/44", END, BEGIN "/45", END, BEGIN "/46", END, BEGIN "/47", END, BEGIN "/48", END, BEGIN "/49", END,
-- BEGIN "/50", END, BEGIN "/51", END, BEGIN "/52", END, BEGIN "/53", END, BEGIN "/54", END, BEGIN "/55", END, BEGIN "/56", END, BEGIN "/57", END, BEGIN
-- "/58", END, BEGIN "/59", END, BEGIN "/60", END, BEGIN "/61", END, BEGIN "/62", END, BEGIN "/63", END, BEGIN "x", END
pub book_sizes_65_records_bad_path :
    Answers "\u{1}\0\0\u{3}\0\u{14}\u{1}\u{3}\0\u{3}\0\u{14}\u{1}\u{6}\0\u{3}\0\u{14}\u{1}\t\0\u{3}\0\u{14}\u{1}\u{c}\0\u{3}\0\u{14}\u{1}\u{f}\0\u{3}\0\u{14}\u{1}\u{12}\0\u{3}\0\u{14}\u{1}\u{15}\0\u{3}\0\u{14}\u{1}\u{18}\0\u{3}\0\u{14}\u{1}\u{1b}\0\u{3}\0\u{14}\u{1}\u{1e}\0\u{3}\0\u{14}\u{1}!\0\u{3}\0\u{14}\u{1}$\0\u{3}\0\u{14}\u{1}'\0\u{3}\0\u{14}\u{1}*\0\u{3}\0\u{14}\u{1}-\0\u{3}\0\u{14}\u{1}0\0\u{3}\0\u{14}\u{1}3\0\u{3}\0\u{14}\u{1}6\0\u{3}\0\u{14}\u{1}9\0\u{3}\0\u{14}\u{1}<\0\u{3}\0\u{14}\u{1}?\0\u{3}\0\u{14}\u{1}B\0\u{3}\0\u{14}\u{1}E\0\u{3}\0\u{14}\u{1}H\0\u{3}\0\u{14}\u{1}K\0\u{3}\0\u{14}\u{1}N\0\u{3}\0\u{14}\u{1}Q\0\u{3}\0\u{14}\u{1}T\0\u{3}\0\u{14}\u{1}W\0\u{3}\0\u{14}\u{1}Z\0\u{3}\0\u{14}\u{1}]\0\u{3}\0\u{14}\u{1}`\0\u{3}\0\u{14}\u{1}c\0\u{3}\0\u{14}\u{1}f\0\u{3}\0\u{14}\u{1}i\0\u{3}\0\u{14}\u{1}l\0\u{3}\0\u{14}\u{1}o\0\u{3}\0\u{14}\u{1}r\0\u{3}\0\u{14}\u{1}u\0\u{3}\0\u{14}\u{1}x\0\u{3}\0\u{14}\u{1}{\0\u{3}\0\u{14}\u{1}~\0\u{3}\0\u{14}\u{1}\u{81}\0\u{3}\0\u{14}\u{1}\u{84}\0\u{3}\0\u{14}\u{1}\u{87}\0\u{3}\0\u{14}\u{1}\u{8a}\0\u{3}\0\u{14}\u{1}\u{8d}\0\u{3}\0\u{14}\u{1}\u{90}\0\u{3}\0\u{14}\u{1}\u{93}\0\u{3}\0\u{14}\u{1}\u{96}\0\u{3}\0\u{14}\u{1}\u{99}\0\u{3}\0\u{14}\u{1}\u{9c}\0\u{3}\0\u{14}\u{1}\u{9f}\0\u{3}\0\u{14}\u{1}¢\0\u{3}\0\u{14}\u{1}¥\0\u{3}\0\u{14}\u{1}¨\0\u{3}\0\u{14}\u{1}«\0\u{3}\0\u{14}\u{1}®\0\u{3}\0\u{14}\u{1}±\0\u{3}\0\u{14}\u{1}´\0\u{3}\0\u{14}\u{1}·\0\u{3}\0\u{14}\u{1}º\0\u{3}\0\u{14}\u{1}½\0\u{3}\0\u{14}\u{1}À\0\u{1}\0\u{14}" "/00/01/02/03/04/05/06/07/08/09/10/11/12/13/14/15/16/17/18/19/20/21/22/23/24/25/26/27/28/29/30/31/32/33/34/35/36/37/38/39/40/41/42/43/44/45/46/47/48/49/50/51/52/53/54/55/56/57/58/59/60/61/62/63x"
    ((B "/63" gets refuses 4 384)
    ∷ [])
unfolding tell
book_sizes_65_records_bad_path = refl

-- BEGIN "/00", END, BEGIN "/01", END, BEGIN "/02", END, BEGIN "/03", END, BEGIN "/04", END, BEGIN "/05", END, BEGIN "/06", END, BEGIN "/07", END, BEGIN
-- "/08", END, BEGIN "/09", END, BEGIN "/10", END, BEGIN "/11", END, BEGIN "/12", END, BEGIN "/13", END, BEGIN "/14", END, BEGIN "/15", END, BEGIN "/16",
-- END, BEGIN "/17", END, BEGIN "/18", END, BEGIN "/19", END, BEGIN "/20", END, BEGIN "/21", END, BEGIN "/22", END, BEGIN "/23", END, BEGIN "/24", END,
-- BEGIN "/25", END, BEGIN "/26", END, BEGIN "/27", END, BEGIN "/28", END, BEGIN "/29", END, BEGIN "/30", END, BEGIN "/31", END, BEGIN "/32", END, BEGIN
-- "/33", END, BEGIN "/34", END, BEGIN "/35", END, BEGIN "/36", END, BEGIN "/37", END, BEGIN "/38", END, BEGIN "/39", END, BEGIN "/40", END, BEGIN "/41",
-- END, BEGIN "/42", END, BEGIN "/43", END, BEGIN "/44", END, BEGIN "/45", END, BEGIN "/46", END, BEGIN "/47", END, BEGIN "/48", END, BEGIN "/49", END,
-- BEGIN "/50", END, BEGIN "/51", END, BEGIN "/52", END, BEGIN "/53", END, BEGIN "/54", END, BEGIN "/55", END, BEGIN "/56", END, BEGIN "/57", END, BEGIN
-- "/58", END, BEGIN "/59", END, BEGIN "/60", END, BEGIN "/61", END, BEGIN "/62", END, BEGIN "/63", END, BEGIN "/00", END
pub book_sizes_65_records_repeated :
    Answers "\u{1}\0\0\u{3}\0\u{14}\u{1}\u{3}\0\u{3}\0\u{14}\u{1}\u{6}\0\u{3}\0\u{14}\u{1}\t\0\u{3}\0\u{14}\u{1}\u{c}\0\u{3}\0\u{14}\u{1}\u{f}\0\u{3}\0\u{14}\u{1}\u{12}\0\u{3}\0\u{14}\u{1}\u{15}\0\u{3}\0\u{14}\u{1}\u{18}\0\u{3}\0\u{14}\u{1}\u{1b}\0\u{3}\0\u{14}\u{1}\u{1e}\0\u{3}\0\u{14}\u{1}!\0\u{3}\0\u{14}\u{1}$\0\u{3}\0\u{14}\u{1}'\0\u{3}\0\u{14}\u{1}*\0\u{3}\0\u{14}\u{1}-\0\u{3}\0\u{14}\u{1}0\0\u{3}\0\u{14}\u{1}3\0\u{3}\0\u{14}\u{1}6\0\u{3}\0\u{14}\u{1}9\0\u{3}\0\u{14}\u{1}<\0\u{3}\0\u{14}\u{1}?\0\u{3}\0\u{14}\u{1}B\0\u{3}\0\u{14}\u{1}E\0\u{3}\0\u{14}\u{1}H\0\u{3}\0\u{14}\u{1}K\0\u{3}\0\u{14}\u{1}N\0\u{3}\0\u{14}\u{1}Q\0\u{3}\0\u{14}\u{1}T\0\u{3}\0\u{14}\u{1}W\0\u{3}\0\u{14}\u{1}Z\0\u{3}\0\u{14}\u{1}]\0\u{3}\0\u{14}\u{1}`\0\u{3}\0\u{14}\u{1}c\0\u{3}\0\u{14}\u{1}f\0\u{3}\0\u{14}\u{1}i\0\u{3}\0\u{14}\u{1}l\0\u{3}\0\u{14}\u{1}o\0\u{3}\0\u{14}\u{1}r\0\u{3}\0\u{14}\u{1}u\0\u{3}\0\u{14}\u{1}x\0\u{3}\0\u{14}\u{1}{\0\u{3}\0\u{14}\u{1}~\0\u{3}\0\u{14}\u{1}\u{81}\0\u{3}\0\u{14}\u{1}\u{84}\0\u{3}\0\u{14}\u{1}\u{87}\0\u{3}\0\u{14}\u{1}\u{8a}\0\u{3}\0\u{14}\u{1}\u{8d}\0\u{3}\0\u{14}\u{1}\u{90}\0\u{3}\0\u{14}\u{1}\u{93}\0\u{3}\0\u{14}\u{1}\u{96}\0\u{3}\0\u{14}\u{1}\u{99}\0\u{3}\0\u{14}\u{1}\u{9c}\0\u{3}\0\u{14}\u{1}\u{9f}\0\u{3}\0\u{14}\u{1}¢\0\u{3}\0\u{14}\u{1}¥\0\u{3}\0\u{14}\u{1}¨\0\u{3}\0\u{14}\u{1}«\0\u{3}\0\u{14}\u{1}®\0\u{3}\0\u{14}\u{1}±\0\u{3}\0\u{14}\u{1}´\0\u{3}\0\u{14}\u{1}·\0\u{3}\0\u{14}\u{1}º\0\u{3}\0\u{14}\u{1}½\0\u{3}\0\u{14}\u{1}\0\0\u{3}\0\u{14}" "/00/01/02/03/04/05/06/07/08/09/10/11/12/13/14/15/16/17/18/19/20/21/22/23/24/25/26/27/28/29/30/31/32/33/34/35/36/37/38/39/40/41/42/43/44/45/46/47/48/49/50/51/52/53/54/55/56/57/58/59/60/61/62/63"
    ((B "/63" gets refuses 5 384)
    ∷ [])
unfolding tell
book_sizes_65_records_repeated = refl

-- BEGIN "/a", EXCLUDE, exclude "x", exclude "x", exclude "x", exclude "x", exclude "x", exclude "x", exclude "x", exclude "x", exclude "x", exclude "x",
-- exclude "x", exclude "x", exclude "x", exclude "x", exclude "x", exclude "x", exclude "x", exclude "x", exclude "x", exclude "x", exclude "x", exclude
-- "x", exclude "x", exclude "x", exclude "x", exclude "x", exclude "x", exclude "x", exclude "x", exclude "x", exclude "x", exclude "x", exclude "x",
-- exclude "x", exclude "x", exclude "x", exclude "x", exclude "x", exclude "x", exclude "x", exclude "x", exclude "x", exclude "x", exclude "x", exclude
-- "x", exclude "x", exclude "x", exclude "x", exclude "x", exclude "x", exclude "x", exclude "x", exclude "x", exclude "x", exclude "x", exclude "x",
-- exclude "x", exclude "x", exclude "x", exclude "x", exclude "x", exclude "x", exclude "x", exclude "x", END
pub book_sizes_exclude_64 :
    Answers "\u{1}\0\0\u{2}\0\u{6}\u{7}\u{2}\0\u{1}\0\u{7}\u{2}\0\u{1}\0\u{7}\u{2}\0\u{1}\0\u{7}\u{2}\0\u{1}\0\u{7}\u{2}\0\u{1}\0\u{7}\u{2}\0\u{1}\0\u{7}\u{2}\0\u{1}\0\u{7}\u{2}\0\u{1}\0\u{7}\u{2}\0\u{1}\0\u{7}\u{2}\0\u{1}\0\u{7}\u{2}\0\u{1}\0\u{7}\u{2}\0\u{1}\0\u{7}\u{2}\0\u{1}\0\u{7}\u{2}\0\u{1}\0\u{7}\u{2}\0\u{1}\0\u{7}\u{2}\0\u{1}\0\u{7}\u{2}\0\u{1}\0\u{7}\u{2}\0\u{1}\0\u{7}\u{2}\0\u{1}\0\u{7}\u{2}\0\u{1}\0\u{7}\u{2}\0\u{1}\0\u{7}\u{2}\0\u{1}\0\u{7}\u{2}\0\u{1}\0\u{7}\u{2}\0\u{1}\0\u{7}\u{2}\0\u{1}\0\u{7}\u{2}\0\u{1}\0\u{7}\u{2}\0\u{1}\0\u{7}\u{2}\0\u{1}\0\u{7}\u{2}\0\u{1}\0\u{7}\u{2}\0\u{1}\0\u{7}\u{2}\0\u{1}\0\u{7}\u{2}\0\u{1}\0\u{7}\u{2}\0\u{1}\0\u{7}\u{2}\0\u{1}\0\u{7}\u{2}\0\u{1}\0\u{7}\u{2}\0\u{1}\0\u{7}\u{2}\0\u{1}\0\u{7}\u{2}\0\u{1}\0\u{7}\u{2}\0\u{1}\0\u{7}\u{2}\0\u{1}\0\u{7}\u{2}\0\u{1}\0\u{7}\u{2}\0\u{1}\0\u{7}\u{2}\0\u{1}\0\u{7}\u{2}\0\u{1}\0\u{7}\u{2}\0\u{1}\0\u{7}\u{2}\0\u{1}\0\u{7}\u{2}\0\u{1}\0\u{7}\u{2}\0\u{1}\0\u{7}\u{2}\0\u{1}\0\u{7}\u{2}\0\u{1}\0\u{7}\u{2}\0\u{1}\0\u{7}\u{2}\0\u{1}\0\u{7}\u{2}\0\u{1}\0\u{7}\u{2}\0\u{1}\0\u{7}\u{2}\0\u{1}\0\u{7}\u{2}\0\u{1}\0\u{7}\u{2}\0\u{1}\0\u{7}\u{2}\0\u{1}\0\u{7}\u{2}\0\u{1}\0\u{7}\u{2}\0\u{1}\0\u{7}\u{2}\0\u{1}\0\u{7}\u{2}\0\u{1}\0\u{7}\u{2}\0\u{1}\0\u{7}\u{2}\0\u{1}\0\u{14}" "/ax"
    ((B "relative" gets refuses 7 0)
    ∷ [])
unfolding tell
book_sizes_exclude_64 = refl

-- BEGIN "/a", EXCLUDE, exclude "x", exclude "x", exclude "x", exclude "x", exclude "x", exclude "x", exclude "x", exclude "x", exclude "x", exclude "x",
-- exclude "x", exclude "x", exclude "x", exclude "x", exclude "x", exclude "x", exclude "x", exclude "x", exclude "x", exclude "x", exclude "x", exclude
-- "x", exclude "x", exclude "x", exclude "x", exclude "x", exclude "x", exclude "x", exclude "x", exclude "x", exclude "x", exclude "x", exclude "x",
-- exclude "x", exclude "x", exclude "x", exclude "x", exclude "x", exclude "x", exclude "x", exclude "x", exclude "x", exclude "x", exclude "x", exclude
-- "x", exclude "x", exclude "x", exclude "x", exclude "x", exclude "x", exclude "x", exclude "x", exclude "x", exclude "x", exclude "x", exclude "x",
-- exclude "x", exclude "x", exclude "x", exclude "x", exclude "x", exclude "x", exclude "x", exclude "x", exclude "x", END
pub book_sizes_exclude_65 :
    Answers "\u{1}\0\0\u{2}\0\u{6}\u{7}\u{2}\0\u{1}\0\u{7}\u{2}\0\u{1}\0\u{7}\u{2}\0\u{1}\0\u{7}\u{2}\0\u{1}\0\u{7}\u{2}\0\u{1}\0\u{7}\u{2}\0\u{1}\0\u{7}\u{2}\0\u{1}\0\u{7}\u{2}\0\u{1}\0\u{7}\u{2}\0\u{1}\0\u{7}\u{2}\0\u{1}\0\u{7}\u{2}\0\u{1}\0\u{7}\u{2}\0\u{1}\0\u{7}\u{2}\0\u{1}\0\u{7}\u{2}\0\u{1}\0\u{7}\u{2}\0\u{1}\0\u{7}\u{2}\0\u{1}\0\u{7}\u{2}\0\u{1}\0\u{7}\u{2}\0\u{1}\0\u{7}\u{2}\0\u{1}\0\u{7}\u{2}\0\u{1}\0\u{7}\u{2}\0\u{1}\0\u{7}\u{2}\0\u{1}\0\u{7}\u{2}\0\u{1}\0\u{7}\u{2}\0\u{1}\0\u{7}\u{2}\0\u{1}\0\u{7}\u{2}\0\u{1}\0\u{7}\u{2}\0\u{1}\0\u{7}\u{2}\0\u{1}\0\u{7}\u{2}\0\u{1}\0\u{7}\u{2}\0\u{1}\0\u{7}\u{2}\0\u{1}\0\u{7}\u{2}\0\u{1}\0\u{7}\u{2}\0\u{1}\0\u{7}\u{2}\0\u{1}\0\u{7}\u{2}\0\u{1}\0\u{7}\u{2}\0\u{1}\0\u{7}\u{2}\0\u{1}\0\u{7}\u{2}\0\u{1}\0\u{7}\u{2}\0\u{1}\0\u{7}\u{2}\0\u{1}\0\u{7}\u{2}\0\u{1}\0\u{7}\u{2}\0\u{1}\0\u{7}\u{2}\0\u{1}\0\u{7}\u{2}\0\u{1}\0\u{7}\u{2}\0\u{1}\0\u{7}\u{2}\0\u{1}\0\u{7}\u{2}\0\u{1}\0\u{7}\u{2}\0\u{1}\0\u{7}\u{2}\0\u{1}\0\u{7}\u{2}\0\u{1}\0\u{7}\u{2}\0\u{1}\0\u{7}\u{2}\0\u{1}\0\u{7}\u{2}\0\u{1}\0\u{7}\u{2}\0\u{1}\0\u{7}\u{2}\0\u{1}\0\u{7}\u{2}\0\u{1}\0\u{7}\u{2}\0\u{1}\0\u{7}\u{2}\0\u{1}\0\u{7}\u{2}\0\u{1}\0\u{7}\u{2}\0\u{1}\0\u{7}\u{2}\0\u{1}\0\u{7}\u{2}\0\u{1}\0\u{7}\u{2}\0\u{1}\0\u{7}\u{2}\0\u{1}\0\u{7}\u{2}\0\u{1}\0\u{14}" "/ax"
    ((B "/a" gets refuses 5 326)
    ∷ [])
unfolding tell
book_sizes_exclude_65 = refl

-- BEGIN "/a", extends "x", extends "x", extends "x", extends "x", extends "x", extends "x", extends "x", extends "x", END
pub book_sizes_extends_8 :
    Answers "\u{1}\0\0\u{2}\0\u{8}\u{2}\0\u{1}\0\u{8}\u{2}\0\u{1}\0\u{8}\u{2}\0\u{1}\0\u{8}\u{2}\0\u{1}\0\u{8}\u{2}\0\u{1}\0\u{8}\u{2}\0\u{1}\0\u{8}\u{2}\0\u{1}\0\u{8}\u{2}\0\u{1}\0\u{14}" "/ax"
    ((B "relative" gets refuses 7 0)
    ∷ [])
unfolding tell
book_sizes_extends_8 = refl

-- BEGIN "/a", extends "x", extends "x", extends "x", extends "x", extends "x", extends "x", extends "x", extends "x", extends "x", END
pub book_sizes_extends_9 :
    Answers "\u{1}\0\0\u{2}\0\u{8}\u{2}\0\u{1}\0\u{8}\u{2}\0\u{1}\0\u{8}\u{2}\0\u{1}\0\u{8}\u{2}\0\u{1}\0\u{8}\u{2}\0\u{1}\0\u{8}\u{2}\0\u{1}\0\u{8}\u{2}\0\u{1}\0\u{8}\u{2}\0\u{1}\0\u{8}\u{2}\0\u{1}\0\u{14}" "/ax"
    ((B "/a" gets refuses 5 45)
    ∷ [])
unfolding tell
book_sizes_extends_9 = refl

-- BEGIN "/a", FILES, file "x", file "x", file "x", file "x", file "x", file "x", file "x", file "x", file "x", file "x", file "x", file "x", file "x",
-- file "x", file "x", file "x", file "x", file "x", file "x", file "x", file "x", file "x", file "x", file "x", file "x", file "x", file "x", file "x",
-- file "x", file "x", file "x", file "x", file "x", file "x", file "x", file "x", file "x", file "x", file "x", file "x", file "x", file "x", file "x",
-- file "x", file "x", file "x", file "x", file "x", file "x", file "x", file "x", file "x", file "x", file "x", file "x", file "x", file "x", file "x",
-- file "x", file "x", file "x", file "x", file "x", file "x", END
pub book_sizes_files_64 :
    Answers "\u{1}\0\0\u{2}\0\u{2}\u{3}\u{2}\0\u{1}\0\u{3}\u{2}\0\u{1}\0\u{3}\u{2}\0\u{1}\0\u{3}\u{2}\0\u{1}\0\u{3}\u{2}\0\u{1}\0\u{3}\u{2}\0\u{1}\0\u{3}\u{2}\0\u{1}\0\u{3}\u{2}\0\u{1}\0\u{3}\u{2}\0\u{1}\0\u{3}\u{2}\0\u{1}\0\u{3}\u{2}\0\u{1}\0\u{3}\u{2}\0\u{1}\0\u{3}\u{2}\0\u{1}\0\u{3}\u{2}\0\u{1}\0\u{3}\u{2}\0\u{1}\0\u{3}\u{2}\0\u{1}\0\u{3}\u{2}\0\u{1}\0\u{3}\u{2}\0\u{1}\0\u{3}\u{2}\0\u{1}\0\u{3}\u{2}\0\u{1}\0\u{3}\u{2}\0\u{1}\0\u{3}\u{2}\0\u{1}\0\u{3}\u{2}\0\u{1}\0\u{3}\u{2}\0\u{1}\0\u{3}\u{2}\0\u{1}\0\u{3}\u{2}\0\u{1}\0\u{3}\u{2}\0\u{1}\0\u{3}\u{2}\0\u{1}\0\u{3}\u{2}\0\u{1}\0\u{3}\u{2}\0\u{1}\0\u{3}\u{2}\0\u{1}\0\u{3}\u{2}\0\u{1}\0\u{3}\u{2}\0\u{1}\0\u{3}\u{2}\0\u{1}\0\u{3}\u{2}\0\u{1}\0\u{3}\u{2}\0\u{1}\0\u{3}\u{2}\0\u{1}\0\u{3}\u{2}\0\u{1}\0\u{3}\u{2}\0\u{1}\0\u{3}\u{2}\0\u{1}\0\u{3}\u{2}\0\u{1}\0\u{3}\u{2}\0\u{1}\0\u{3}\u{2}\0\u{1}\0\u{3}\u{2}\0\u{1}\0\u{3}\u{2}\0\u{1}\0\u{3}\u{2}\0\u{1}\0\u{3}\u{2}\0\u{1}\0\u{3}\u{2}\0\u{1}\0\u{3}\u{2}\0\u{1}\0\u{3}\u{2}\0\u{1}\0\u{3}\u{2}\0\u{1}\0\u{3}\u{2}\0\u{1}\0\u{3}\u{2}\0\u{1}\0\u{3}\u{2}\0\u{1}\0\u{3}\u{2}\0\u{1}\0\u{3}\u{2}\0\u{1}\0\u{3}\u{2}\0\u{1}\0\u{3}\u{2}\0\u{1}\0\u{3}\u{2}\0\u{1}\0\u{3}\u{2}\0\u{1}\0\u{3}\u{2}\0\u{1}\0\u{3}\u{2}\0\u{1}\0\u{3}\u{2}\0\u{1}\0\u{3}\u{2}\0\u{1}\0\u{14}" "/ax"
    ((B "relative" gets refuses 7 0)
    ∷ [])
unfolding tell
book_sizes_files_64 = refl

-- BEGIN "/a", FILES, file "x", file "x", file "x", file "x", file "x", file "x", file "x", file "x", file "x", file "x", file "x", file "x", file "x",
-- file "x", file "x", file "x", file "x", file "x", file "x", file "x", file "x", file "x", file "x", file "x", file "x", file "x", file "x", file "x",
-- file "x", file "x", file "x", file "x", file "x", file "x", file "x", file "x", file "x", file "x", file "x", file "x", file "x", file "x", file "x",
-- file "x", file "x", file "x", file "x", file "x", file "x", file "x", file "x", file "x", file "x", file "x", file "x", file "x", file "x", file "x",
-- file "x", file "x", file "x", file "x", file "x", file "x", file "x", END
pub book_sizes_files_65 :
    Answers "\u{1}\0\0\u{2}\0\u{2}\u{3}\u{2}\0\u{1}\0\u{3}\u{2}\0\u{1}\0\u{3}\u{2}\0\u{1}\0\u{3}\u{2}\0\u{1}\0\u{3}\u{2}\0\u{1}\0\u{3}\u{2}\0\u{1}\0\u{3}\u{2}\0\u{1}\0\u{3}\u{2}\0\u{1}\0\u{3}\u{2}\0\u{1}\0\u{3}\u{2}\0\u{1}\0\u{3}\u{2}\0\u{1}\0\u{3}\u{2}\0\u{1}\0\u{3}\u{2}\0\u{1}\0\u{3}\u{2}\0\u{1}\0\u{3}\u{2}\0\u{1}\0\u{3}\u{2}\0\u{1}\0\u{3}\u{2}\0\u{1}\0\u{3}\u{2}\0\u{1}\0\u{3}\u{2}\0\u{1}\0\u{3}\u{2}\0\u{1}\0\u{3}\u{2}\0\u{1}\0\u{3}\u{2}\0\u{1}\0\u{3}\u{2}\0\u{1}\0\u{3}\u{2}\0\u{1}\0\u{3}\u{2}\0\u{1}\0\u{3}\u{2}\0\u{1}\0\u{3}\u{2}\0\u{1}\0\u{3}\u{2}\0\u{1}\0\u{3}\u{2}\0\u{1}\0\u{3}\u{2}\0\u{1}\0\u{3}\u{2}\0\u{1}\0\u{3}\u{2}\0\u{1}\0\u{3}\u{2}\0\u{1}\0\u{3}\u{2}\0\u{1}\0\u{3}\u{2}\0\u{1}\0\u{3}\u{2}\0\u{1}\0\u{3}\u{2}\0\u{1}\0\u{3}\u{2}\0\u{1}\0\u{3}\u{2}\0\u{1}\0\u{3}\u{2}\0\u{1}\0\u{3}\u{2}\0\u{1}\0\u{3}\u{2}\0\u{1}\0\u{3}\u{2}\0\u{1}\0\u{3}\u{2}\0\u{1}\0\u{3}\u{2}\0\u{1}\0\u{3}\u{2}\0\u{1}\0\u{3}\u{2}\0\u{1}\0\u{3}\u{2}\0\u{1}\0\u{3}\u{2}\0\u{1}\0\u{3}\u{2}\0\u{1}\0\u{3}\u{2}\0\u{1}\0\u{3}\u{2}\0\u{1}\0\u{3}\u{2}\0\u{1}\0\u{3}\u{2}\0\u{1}\0\u{3}\u{2}\0\u{1}\0\u{3}\u{2}\0\u{1}\0\u{3}\u{2}\0\u{1}\0\u{3}\u{2}\0\u{1}\0\u{3}\u{2}\0\u{1}\0\u{3}\u{2}\0\u{1}\0\u{3}\u{2}\0\u{1}\0\u{3}\u{2}\0\u{1}\0\u{3}\u{2}\0\u{1}\0\u{3}\u{2}\0\u{1}\0\u{3}\u{2}\0\u{1}\0\u{14}" "/ax"
    ((B "/a" gets refuses 5 326)
    ∷ [])
unfolding tell
book_sizes_files_65 = refl

-- BEGIN "/a", INCLUDE, include "x", include "x", include "x", include "x", include "x", include "x", include "x", include "x", include "x", include "x",
-- include "x", include "x", include "x", include "x", include "x", include "x", include "x", include "x", include "x", include "x", include "x", include
-- "x", include "x", include "x", include "x", include "x", include "x", include "x", include "x", include "x", include "x", include "x", include "x",
-- include "x", include "x", include "x", include "x", include "x", include "x", include "x", include "x", include "x", include "x", include "x", include
-- "x", include "x", include "x", include "x", include "x", include "x", include "x", include "x", include "x", include "x", include "x", include "x",
-- include "x", include "x", include "x", include "x", include "x", include "x", include "x", include "x", END
pub book_sizes_include_64 :
    Answers "\u{1}\0\0\u{2}\0\u{4}\u{5}\u{2}\0\u{1}\0\u{5}\u{2}\0\u{1}\0\u{5}\u{2}\0\u{1}\0\u{5}\u{2}\0\u{1}\0\u{5}\u{2}\0\u{1}\0\u{5}\u{2}\0\u{1}\0\u{5}\u{2}\0\u{1}\0\u{5}\u{2}\0\u{1}\0\u{5}\u{2}\0\u{1}\0\u{5}\u{2}\0\u{1}\0\u{5}\u{2}\0\u{1}\0\u{5}\u{2}\0\u{1}\0\u{5}\u{2}\0\u{1}\0\u{5}\u{2}\0\u{1}\0\u{5}\u{2}\0\u{1}\0\u{5}\u{2}\0\u{1}\0\u{5}\u{2}\0\u{1}\0\u{5}\u{2}\0\u{1}\0\u{5}\u{2}\0\u{1}\0\u{5}\u{2}\0\u{1}\0\u{5}\u{2}\0\u{1}\0\u{5}\u{2}\0\u{1}\0\u{5}\u{2}\0\u{1}\0\u{5}\u{2}\0\u{1}\0\u{5}\u{2}\0\u{1}\0\u{5}\u{2}\0\u{1}\0\u{5}\u{2}\0\u{1}\0\u{5}\u{2}\0\u{1}\0\u{5}\u{2}\0\u{1}\0\u{5}\u{2}\0\u{1}\0\u{5}\u{2}\0\u{1}\0\u{5}\u{2}\0\u{1}\0\u{5}\u{2}\0\u{1}\0\u{5}\u{2}\0\u{1}\0\u{5}\u{2}\0\u{1}\0\u{5}\u{2}\0\u{1}\0\u{5}\u{2}\0\u{1}\0\u{5}\u{2}\0\u{1}\0\u{5}\u{2}\0\u{1}\0\u{5}\u{2}\0\u{1}\0\u{5}\u{2}\0\u{1}\0\u{5}\u{2}\0\u{1}\0\u{5}\u{2}\0\u{1}\0\u{5}\u{2}\0\u{1}\0\u{5}\u{2}\0\u{1}\0\u{5}\u{2}\0\u{1}\0\u{5}\u{2}\0\u{1}\0\u{5}\u{2}\0\u{1}\0\u{5}\u{2}\0\u{1}\0\u{5}\u{2}\0\u{1}\0\u{5}\u{2}\0\u{1}\0\u{5}\u{2}\0\u{1}\0\u{5}\u{2}\0\u{1}\0\u{5}\u{2}\0\u{1}\0\u{5}\u{2}\0\u{1}\0\u{5}\u{2}\0\u{1}\0\u{5}\u{2}\0\u{1}\0\u{5}\u{2}\0\u{1}\0\u{5}\u{2}\0\u{1}\0\u{5}\u{2}\0\u{1}\0\u{5}\u{2}\0\u{1}\0\u{5}\u{2}\0\u{1}\0\u{5}\u{2}\0\u{1}\0\u{5}\u{2}\0\u{1}\0\u{14}" "/ax"
    ((B "relative" gets refuses 7 0)
    ∷ [])
unfolding tell
book_sizes_include_64 = refl

-- BEGIN "/a", INCLUDE, include "x", include "x", include "x", include "x", include "x", include "x", include "x", include "x", include "x", include "x",
-- include "x", include "x", include "x", include "x", include "x", include "x", include "x", include "x", include "x", include "x", include "x", include
-- "x", include "x", include "x", include "x", include "x", include "x", include "x", include "x", include "x", include "x", include "x", include "x",
-- include "x", include "x", include "x", include "x", include "x", include "x", include "x", include "x", include "x", include "x", include "x", include
-- "x", include "x", include "x", include "x", include "x", include "x", include "x", include "x", include "x", include "x", include "x", include "x",
-- include "x", include "x", include "x", include "x", include "x", include "x", include "x", include "x", include "x", END
pub book_sizes_include_65 :
    Answers "\u{1}\0\0\u{2}\0\u{4}\u{5}\u{2}\0\u{1}\0\u{5}\u{2}\0\u{1}\0\u{5}\u{2}\0\u{1}\0\u{5}\u{2}\0\u{1}\0\u{5}\u{2}\0\u{1}\0\u{5}\u{2}\0\u{1}\0\u{5}\u{2}\0\u{1}\0\u{5}\u{2}\0\u{1}\0\u{5}\u{2}\0\u{1}\0\u{5}\u{2}\0\u{1}\0\u{5}\u{2}\0\u{1}\0\u{5}\u{2}\0\u{1}\0\u{5}\u{2}\0\u{1}\0\u{5}\u{2}\0\u{1}\0\u{5}\u{2}\0\u{1}\0\u{5}\u{2}\0\u{1}\0\u{5}\u{2}\0\u{1}\0\u{5}\u{2}\0\u{1}\0\u{5}\u{2}\0\u{1}\0\u{5}\u{2}\0\u{1}\0\u{5}\u{2}\0\u{1}\0\u{5}\u{2}\0\u{1}\0\u{5}\u{2}\0\u{1}\0\u{5}\u{2}\0\u{1}\0\u{5}\u{2}\0\u{1}\0\u{5}\u{2}\0\u{1}\0\u{5}\u{2}\0\u{1}\0\u{5}\u{2}\0\u{1}\0\u{5}\u{2}\0\u{1}\0\u{5}\u{2}\0\u{1}\0\u{5}\u{2}\0\u{1}\0\u{5}\u{2}\0\u{1}\0\u{5}\u{2}\0\u{1}\0\u{5}\u{2}\0\u{1}\0\u{5}\u{2}\0\u{1}\0\u{5}\u{2}\0\u{1}\0\u{5}\u{2}\0\u{1}\0\u{5}\u{2}\0\u{1}\0\u{5}\u{2}\0\u{1}\0\u{5}\u{2}\0\u{1}\0\u{5}\u{2}\0\u{1}\0\u{5}\u{2}\0\u{1}\0\u{5}\u{2}\0\u{1}\0\u{5}\u{2}\0\u{1}\0\u{5}\u{2}\0\u{1}\0\u{5}\u{2}\0\u{1}\0\u{5}\u{2}\0\u{1}\0\u{5}\u{2}\0\u{1}\0\u{5}\u{2}\0\u{1}\0\u{5}\u{2}\0\u{1}\0\u{5}\u{2}\0\u{1}\0\u{5}\u{2}\0\u{1}\0\u{5}\u{2}\0\u{1}\0\u{5}\u{2}\0\u{1}\0\u{5}\u{2}\0\u{1}\0\u{5}\u{2}\0\u{1}\0\u{5}\u{2}\0\u{1}\0\u{5}\u{2}\0\u{1}\0\u{5}\u{2}\0\u{1}\0\u{5}\u{2}\0\u{1}\0\u{5}\u{2}\0\u{1}\0\u{5}\u{2}\0\u{1}\0\u{5}\u{2}\0\u{1}\0\u{5}\u{2}\0\u{1}\0\u{5}\u{2}\0\u{1}\0\u{14}" "/ax"
    ((B "/a" gets refuses 5 326)
    ∷ [])
unfolding tell
book_sizes_include_65 = refl

-- BEGIN "/a", PATHS, key "k0", key "k1", key "k2", key "k3", key "k4", key "k5", key "k6", key "k7", key "k8", key "k9", key "k10", key "k11", key
-- "k12", key "k13", key "k14", key "k15", key "k16", key "k17", key "k18", key "k19", key "k20", key "k21", key "k22", key "k23", key "k24", key "k25",
-- key "k26", key "k27", key "k28", key "k29", key "k30", key "k31", END
pub book_sizes_keys_32 :
    Answers "\u{1}\0\0\u{2}\0\n\u{b}\u{2}\0\u{2}\0\u{b}\u{4}\0\u{2}\0\u{b}\u{6}\0\u{2}\0\u{b}\u{8}\0\u{2}\0\u{b}\n\0\u{2}\0\u{b}\u{c}\0\u{2}\0\u{b}\u{e}\0\u{2}\0\u{b}\u{10}\0\u{2}\0\u{b}\u{12}\0\u{2}\0\u{b}\u{14}\0\u{2}\0\u{b}\u{16}\0\u{3}\0\u{b}\u{19}\0\u{3}\0\u{b}\u{1c}\0\u{3}\0\u{b}\u{1f}\0\u{3}\0\u{b}\"\0\u{3}\0\u{b}%\0\u{3}\0\u{b}(\0\u{3}\0\u{b}+\0\u{3}\0\u{b}.\0\u{3}\0\u{b}1\0\u{3}\0\u{b}4\0\u{3}\0\u{b}7\0\u{3}\0\u{b}:\0\u{3}\0\u{b}=\0\u{3}\0\u{b}@\0\u{3}\0\u{b}C\0\u{3}\0\u{b}F\0\u{3}\0\u{b}I\0\u{3}\0\u{b}L\0\u{3}\0\u{b}O\0\u{3}\0\u{b}R\0\u{3}\0\u{b}U\0\u{3}\0\u{14}" "/ak0k1k2k3k4k5k6k7k8k9k10k11k12k13k14k15k16k17k18k19k20k21k22k23k24k25k26k27k28k29k30k31"
    ((B "relative" gets refuses 7 0)
    ∷ [])
unfolding tell
book_sizes_keys_32 = refl

-- BEGIN "/a", PATHS, key "k0", key "k1", key "k2", key "k3", key "k4", key "k5", key "k6", key "k7", key "k8", key "k9", key "k10", key "k11", key
-- "k12", key "k13", key "k14", key "k15", key "k16", key "k17", key "k18", key "k19", key "k20", key "k21", key "k22", key "k23", key "k24", key "k25",
-- key "k26", key "k27", key "k28", key "k29", key "k30", key "k31", key "k32", END
pub book_sizes_keys_33 :
    Answers "\u{1}\0\0\u{2}\0\n\u{b}\u{2}\0\u{2}\0\u{b}\u{4}\0\u{2}\0\u{b}\u{6}\0\u{2}\0\u{b}\u{8}\0\u{2}\0\u{b}\n\0\u{2}\0\u{b}\u{c}\0\u{2}\0\u{b}\u{e}\0\u{2}\0\u{b}\u{10}\0\u{2}\0\u{b}\u{12}\0\u{2}\0\u{b}\u{14}\0\u{2}\0\u{b}\u{16}\0\u{3}\0\u{b}\u{19}\0\u{3}\0\u{b}\u{1c}\0\u{3}\0\u{b}\u{1f}\0\u{3}\0\u{b}\"\0\u{3}\0\u{b}%\0\u{3}\0\u{b}(\0\u{3}\0\u{b}+\0\u{3}\0\u{b}.\0\u{3}\0\u{b}1\0\u{3}\0\u{b}4\0\u{3}\0\u{b}7\0\u{3}\0\u{b}:\0\u{3}\0\u{b}=\0\u{3}\0\u{b}@\0\u{3}\0\u{b}C\0\u{3}\0\u{b}F\0\u{3}\0\u{b}I\0\u{3}\0\u{b}L\0\u{3}\0\u{b}O\0\u{3}\0\u{b}R\0\u{3}\0\u{b}U\0\u{3}\0\u{b}X\0\u{3}\0\u{14}" "/ak0k1k2k3k4k5k6k7k8k9k10k11k12k13k14k15k16k17k18k19k20k21k22k23k24k25k26k27k28k29k30k31k32"
    ((B "/a" gets refuses 5 166)
    ∷ [])
unfolding tell
book_sizes_keys_33 = refl

-- BEGIN "/a", reference "x", reference "x", reference "x", reference "x", reference "x", reference "x", reference "x", reference "x", reference "x",
-- reference "x", reference "x", reference "x", reference "x", reference "x", reference "x", reference "x", END
pub book_sizes_references_16 :
    Answers "\u{1}\0\0\u{2}\0\r\u{2}\0\u{1}\0\r\u{2}\0\u{1}\0\r\u{2}\0\u{1}\0\r\u{2}\0\u{1}\0\r\u{2}\0\u{1}\0\r\u{2}\0\u{1}\0\r\u{2}\0\u{1}\0\r\u{2}\0\u{1}\0\r\u{2}\0\u{1}\0\r\u{2}\0\u{1}\0\r\u{2}\0\u{1}\0\r\u{2}\0\u{1}\0\r\u{2}\0\u{1}\0\r\u{2}\0\u{1}\0\r\u{2}\0\u{1}\0\r\u{2}\0\u{1}\0\u{14}" "/ax"
    ((B "relative" gets refuses 7 0)
    ∷ [])
unfolding tell
book_sizes_references_16 = refl

-- BEGIN "/a", reference "x", reference "x", reference "x", reference "x", reference "x", reference "x", reference "x", reference "x", reference "x",
-- reference "x", reference "x", reference "x", reference "x", reference "x", reference "x", reference "x", reference "x", END
pub book_sizes_references_17 :
    Answers "\u{1}\0\0\u{2}\0\r\u{2}\0\u{1}\0\r\u{2}\0\u{1}\0\r\u{2}\0\u{1}\0\r\u{2}\0\u{1}\0\r\u{2}\0\u{1}\0\r\u{2}\0\u{1}\0\r\u{2}\0\u{1}\0\r\u{2}\0\u{1}\0\r\u{2}\0\u{1}\0\r\u{2}\0\u{1}\0\r\u{2}\0\u{1}\0\r\u{2}\0\u{1}\0\r\u{2}\0\u{1}\0\r\u{2}\0\u{1}\0\r\u{2}\0\u{1}\0\r\u{2}\0\u{1}\0\r\u{2}\0\u{1}\0\u{14}" "/ax"
    ((B "/a" gets refuses 5 85)
    ∷ [])
unfolding tell
book_sizes_references_17 = refl

-- BEGIN "/a", ROOTDIRS, rootDir "x", rootDir "x", rootDir "x", rootDir "x", rootDir "x", rootDir "x", rootDir "x", rootDir "x", END
pub book_sizes_root_dirs_8 :
    Answers "\u{1}\0\0\u{2}\0\u{e}\u{f}\u{2}\0\u{1}\0\u{f}\u{2}\0\u{1}\0\u{f}\u{2}\0\u{1}\0\u{f}\u{2}\0\u{1}\0\u{f}\u{2}\0\u{1}\0\u{f}\u{2}\0\u{1}\0\u{f}\u{2}\0\u{1}\0\u{f}\u{2}\0\u{1}\0\u{14}" "/ax"
    ((B "relative" gets refuses 7 0)
    ∷ [])
unfolding tell
book_sizes_root_dirs_8 = refl

-- BEGIN "/a", ROOTDIRS, rootDir "x", rootDir "x", rootDir "x", rootDir "x", rootDir "x", rootDir "x", rootDir "x", rootDir "x", rootDir "x", END
pub book_sizes_root_dirs_9 :
    Answers "\u{1}\0\0\u{2}\0\u{e}\u{f}\u{2}\0\u{1}\0\u{f}\u{2}\0\u{1}\0\u{f}\u{2}\0\u{1}\0\u{f}\u{2}\0\u{1}\0\u{f}\u{2}\0\u{1}\0\u{f}\u{2}\0\u{1}\0\u{f}\u{2}\0\u{1}\0\u{f}\u{2}\0\u{1}\0\u{f}\u{2}\0\u{1}\0\u{14}" "/ax"
    ((B "/a" gets refuses 5 46)
    ∷ [])
unfolding tell
book_sizes_root_dirs_9 = refl

-- BEGIN "/a", PATHS, key "k", target "t", target "t", target "t", target "t", target "t", target "t", target "t", target "t", END
pub book_sizes_targets_8 :
    Answers "\u{1}\0\0\u{2}\0\n\u{b}\u{2}\0\u{1}\0\u{c}\u{3}\0\u{1}\0\u{c}\u{3}\0\u{1}\0\u{c}\u{3}\0\u{1}\0\u{c}\u{3}\0\u{1}\0\u{c}\u{3}\0\u{1}\0\u{c}\u{3}\0\u{1}\0\u{c}\u{3}\0\u{1}\0\u{c}\u{3}\0\u{1}\0\u{14}" "/akt"
    ((B "relative" gets refuses 7 0)
    ∷ [])
unfolding tell
book_sizes_targets_8 = refl

-- BEGIN "/a", PATHS, key "k", target "t", target "t", target "t", target "t", target "t", target "t", target "t", target "t", target "t", END
pub book_sizes_targets_9 :
    Answers "\u{1}\0\0\u{2}\0\n\u{b}\u{2}\0\u{1}\0\u{c}\u{3}\0\u{1}\0\u{c}\u{3}\0\u{1}\0\u{c}\u{3}\0\u{1}\0\u{c}\u{3}\0\u{1}\0\u{c}\u{3}\0\u{1}\0\u{c}\u{3}\0\u{1}\0\u{c}\u{3}\0\u{1}\0\u{c}\u{3}\0\u{1}\0\u{c}\u{3}\0\u{1}\0\u{14}" "/akt"
    ((B "/a" gets refuses 5 51)
    ∷ [])
unfolding tell
book_sizes_targets_9 = refl

-- BEGIN "/a/tsconfig.json", INCLUDE, include "none", reference ".", END, BEGIN "/a/b/tsconfig.json", INCLUDE, include "none", reference
-- "../tsconfig.json", END, BEGIN "/c/tsconfig.json", INCLUDE, include "none", reference "./gone", END, BEGIN "/c/d/tsconfig.json", INCLUDE, include
-- "none", reference "../tsconfig.json", END, BEGIN "/c/e/tsconfig.json", INCLUDE, include "none", reference "..", END
pub book_stores_refused :
    Answers "\u{1}\0\0\u{10}\0\u{4}\u{5}\u{10}\0\u{4}\0\r\u{14}\0\u{1}\0\u{14}\u{1}\u{15}\0\u{12}\0\u{4}\u{5}\u{10}\0\u{4}\0\r'\0\u{10}\0\u{14}\u{1}7\0\u{10}\0\u{4}\u{5}\u{10}\0\u{4}\0\rG\0\u{6}\0\u{14}\u{1}M\0\u{12}\0\u{4}\u{5}\u{10}\0\u{4}\0\r'\0\u{10}\0\u{14}\u{1}_\0\u{12}\0\u{4}\u{5}\u{10}\0\u{4}\0\rq\0\u{2}\0\u{14}" "/a/tsconfig.jsonnone./a/b/tsconfig.json../tsconfig.json/c/tsconfig.json./gone/c/d/tsconfig.json/c/e/tsconfig.json.."
    ((O "/a/b/x.ts" gets refuses 10 0)
    ∷ (O "/c/d/x.ts" gets refuses 8 2)
    ∷ (O "/c/e/x.ts" gets refuses 8 2)
    ∷ [])
unfolding tell
book_stores_refused = refl

-- BEGIN "/t/base.json", PATHS, key "@f/*", target "filt/*", END, BEGIN "/t/st/tsconfig.json", extends "../base.json", INCLUDE, include "src", END
pub book_worked_example :
    Answers "\u{1}\0\0\u{c}\0\n\u{b}\u{c}\0\u{4}\0\u{c}\u{10}\0\u{6}\0\u{14}\u{1}\u{16}\0\u{13}\0\u{8})\0\u{c}\0\u{4}\u{5}5\0\u{3}\0\u{14}" "/t/base.json@f/*filt/*/t/st/tsconfig.json../base.jsonsrc"
    ((B "/t/st/tsconfig.json" gets gives 1 1 "include=/t/st/src\nbase=/t\nkey=@f/*\ntarget=/t/filt/*\n")
    ∷ (O "/t/st/src/a.ts" gets gives 1 1 "")
    ∷ (C "/t/st/tsconfig.json" "@f/band" gets gives 1 0 "\u{c}\0/t/filt/band")
    ∷ [])
unfolding tell
book_worked_example = refl
