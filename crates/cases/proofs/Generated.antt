-- Generated books, answered as the crate answers them.
use mathlib.Core.List.{[], ◌∷◌}
use mathlib.Core.Path.{refl}
use Rattle.cases.specs.Asked.{Answers, tell, ◌gets◌, B, O, C, T, refuses, gives}

-- BEGIN "/p/.json", ROOTDIRS, rootDir "", rootDir "${configDir}/src", rootDir "/p/src", rootDir "//p/src", flag 9 1, END
pub book_000001 :
    Answers "\u{1}\0\0\u{8}\0\u{e}\u{f}\u{8}\0\0\0\u{f}\u{8}\0\u{10}\0\u{f}\u{18}\0\u{6}\0\u{f}\u{1e}\0\u{7}\0\u{12}\t\u{1}\u{14}" "/p/.json${configDir}/src/p/src//p/src"
    ((B "/p/.json" gets gives 0 0 "base=/p\nrootDir=\nrootDir=/p/src\nrootDir=/p/src\nrootDir=//p/src\nflag 9=1\n")
    ∷ (B "/p/.json" gets gives 0 0 "base=/p\nrootDir=\nrootDir=/p/src\nrootDir=/p/src\nrootDir=//p/src\nflag 9=1\n")
    ∷ (O "/q/a.b.*" gets gives 65535 65535 "")
    ∷ (O "/p/x.jsx" gets gives 65535 65535 "")
    ∷ (O "/p/node_modules/m/ab.ts" gets gives 65535 65535 "")
    ∷ (O "/a/a.ts" gets gives 65535 65535 "")
    ∷ (O "/p/gen/a.js" gets gives 65535 65535 "")
    ∷ (O "/x.tsx" gets gives 65535 65535 "")
    ∷ (C "/p/.json" "#a" gets gives 0 0 "")
    ∷ (C "/p/.json" "\"q" gets gives 0 0 "")
    ∷ (C "/p/.json" "..a" gets gives 0 0 "")
    ∷ (C "/p/é" "abc" gets refuses 7 0)
    ∷ (C "/p/" "\"q" gets refuses 7 0)
    ∷ (T "/p/.json" "/p/src" "Ã©" gets refuses 7 0)
    ∷ (T "/p/.json" "/p" "./a/../b" gets gives 4 0 "\u{4}\0/p/b\u{4}\0/p/b\u{4}\0/p/b\u{4}\0/p/b")
    ∷ (T "/p/.json" "/q" "../gen/x" gets gives 4 0 "\u{6}\0/gen/x\u{6}\0/gen/x\u{6}\0/gen/x\u{6}\0/gen/x")
    ∷ [])
unfolding tell
book_000001 = refl

-- bytes 01 00 D2 16
pub book_000002 :
    Answers "\u{1}\0Ò\u{16}" "/p b/tsconfig.jsonsrc/**/***/x.*//"
    ((B "/p b" gets refuses 2 0)
    ∷ (O "/p b/src/b/src/k/x.ts" gets refuses 2 0)
    ∷ (O "/p b/a.d.ts" gets refuses 2 0)
    ∷ (O "/p b/x.ts" gets refuses 2 0)
    ∷ (O "/p b/b/k.jsx" gets refuses 2 0)
    ∷ (O "/p//a.ts" gets refuses 2 0)
    ∷ (O "/p b/a.js" gets refuses 2 0)
    ∷ (C "/p b/tsconfig.json" "x" gets refuses 2 0)
    ∷ (C "/p b" "x" gets refuses 2 0)
    ∷ (C "/p b" "x" gets refuses 2 0)
    ∷ (T "/p b" "/aaaaaaaaaaaaaaaaaaaaaaaaaaaaaaaaaaaaaaaaaaaaaaaaaaaaaaaaaaaaaaaaaaaaaaaaaaaaaaaaaaaaaaaaaaaaaaaaaaaaaaaaaaaaaaaaaaaaaaaaaaaaaaaaaaaaaaaaaaaaaaaaaaaaaaaaaaaaaaaaaaaaaaaaaaaaaaaaaaaaaaaaaaaaaaaaaaaaaaaaaaaaaaaaaaaaaaaaaaaaaaaaaaaaaaaaaaaaaaaaaaaaaaaaaaaaaaaaaaaaaaaaaaaaaaaaaaaaaaaaaaaaaaaaaaaaaaaaaaaaaaaaaaaaaaaaaaaaaaaaaaaaaaaaaaaaaaaaaaaaaaaaaaaaaaaaaaaaaaaaaaaaaaaaaaaaaaaaaaaaaaaaaaaaaaaaaaaaaaaaaaaaaaaaaaaaaaaaaaaaaaaaaaaaaaaaaaaaaaaaaaaaaaaaaaaaaaaaaaaaaaaaaaaaaaaaaaaaaaaaaaaaaaaaaaaaaaaaaaaaaaaaaaaaaaaa" "x" gets refuses 2 0)
    ∷ (T "/p b/tsconfig" "/p/src" ".x" gets refuses 2 0)
    ∷ (T "/p b/tsconfig" "/node_modules" ".*/" gets refuses 2 0)
    ∷ (T "/p b" "/" "x" gets refuses 2 0)
    ∷ [])
unfolding tell
book_000002 = refl

-- BEGIN "/p/src/a/tsconfig.json", ROOTDIRS, rootDir "gen", rootDir "***/.", PATHS, key "@f/band", target "a/../../*", key "@f/*", target "*a*", key
-- "./*", target "//..a/a.ts", key "*k", target "x", key "ab*", target "", declarationDir "${configDir}/../o/", END, BEGIN "/ab/tsconfig.json", INCLUDE,
-- include "nothing", include "**/src/**/*", PATHS, extends "../p/src/a/tsconfig", extends "../p/src/a/b/....json", extends "../p/src/a", extends
-- "../p/src/a", flag 2 1, flag 5 0, END, BEGIN "/p/src/a/b/....json", PATHS, key "...b", target "*/..", extends "..", reference
-- "/p/src/a/tsconfig.json", reference "..", flag 0 0, flag 5 0, flag 7 1, text 0 "a=b", END
pub book_000003 :
    Answers "\u{1}\0\0\u{16}\0\u{e}\u{f}\u{16}\0\u{3}\0\u{f}\u{19}\0\u{5}\0\n\u{b}\u{1e}\0\u{7}\0\u{c}%\0\t\0\u{b}.\0\u{4}\0\u{c}2\0\u{3}\0\u{b}5\0\u{3}\0\u{c}8\0\n\0\u{b}B\0\u{2}\0\u{c}D\0\u{1}\0\u{b}E\0\u{3}\0\u{c}H\0\0\0\u{11}H\0\u{12}\0\u{14}\u{1}Z\0\u{11}\0\u{4}\u{5}k\0\u{7}\0\u{5}r\0\u{b}\0\n\u{8}}\0\u{13}\0\u{8}\u{90}\0\u{15}\0\u{8}¥\0\n\0\u{8}¥\0\n\0\u{12}\u{2}\u{1}\u{12}\u{5}\0\u{14}\u{1}¯\0\u{13}\0\n\u{b}Â\0\u{4}\0\u{c}Æ\0\u{4}\0\u{8}Ê\0\u{2}\0\r\0\0\u{16}\0\rÊ\0\u{2}\0\u{12}\0\0\u{12}\u{5}\0\u{12}\u{7}\u{1}\u{13}\0Ì\0\u{3}\0\u{14}" "/p/src/a/tsconfig.jsongen***/.@f/banda/../../*@f/**a*./*//..a/a.ts*kxab*${configDir}/../o//ab/tsconfig.jsonnothing**/src/**/*../p/src/a/tsconfig../p/src/a/b/....json../p/src/a/p/src/a/b/....json...b*/....a=b"
    ((B "/ab/tsconfig.json" gets gives 1 5 "include=/ab/nothing\ninclude=/ab/**/src/**/*\nbase=/ab\npaths\nrootDir=/p/src/a/gen\nrootDir=/p/src/a/***\ndeclarationDir=/ab/../o/\nflag 0=0\nflag 2=1\nflag 5=0\nflag 7=1\ntext 0=a=b\n")
    ∷ (B "/p/src/a/b/....json" gets gives 2 1 "base=/p/src/a/b\nkey=...b\ntarget=/p/src/a/b\nreference=/p/src/a/tsconfig.json\nreference=..\nrootDir=/p/src/a/gen\nrootDir=/p/src/a/***\ndeclarationDir=/p/src/a/b/../o/\nflag 0=0\nflag 5=0\nflag 7=1\ntext 0=a=b\n")
    ∷ (B "/p/src/a/tsconfig.json" gets gives 0 0 "base=/p/src/a\nkey=@f/band\ntarget=/p/src/*\nkey=@f/*\ntarget=/p/src/a/*a*\nkey=./*\ntarget=//..a/a.ts\nkey=*k\ntarget=/p/src/a/x\nkey=ab*\ntarget=\nrootDir=/p/src/a/gen\nrootDir=/p/src/a/***\ndeclarationDir=/p/src/a/../o/\n")
    ∷ (B "/ab/tsconfig" gets gives 1 5 "include=/ab/nothing\ninclude=/ab/**/src/**/*\nbase=/ab\npaths\nrootDir=/p/src/a/gen\nrootDir=/p/src/a/***\ndeclarationDir=/ab/../o/\nflag 0=0\nflag 2=1\nflag 5=0\nflag 7=1\ntext 0=a=b\n")
    ∷ (B "/p/src/a/tsconfig.json" gets gives 0 0 "base=/p/src/a\nkey=@f/band\ntarget=/p/src/*\nkey=@f/*\ntarget=/p/src/a/*a*\nkey=./*\ntarget=//..a/a.ts\nkey=*k\ntarget=/p/src/a/x\nkey=ab*\ntarget=\nrootDir=/p/src/a/gen\nrootDir=/p/src/a/***\ndeclarationDir=/p/src/a/../o/\n")
    ∷ (B "/ab/tsconfig.json" gets gives 1 5 "include=/ab/nothing\ninclude=/ab/**/src/**/*\nbase=/ab\npaths\nrootDir=/p/src/a/gen\nrootDir=/p/src/a/***\ndeclarationDir=/ab/../o/\nflag 0=0\nflag 2=1\nflag 5=0\nflag 7=1\ntext 0=a=b\n")
    ∷ (O "/a.tsx" gets gives 65535 65535 "")
    ∷ (O "/x.ts" gets gives 65535 65535 "")
    ∷ (O "/ab/a.js" gets gives 65535 65535 "")
    ∷ (C "/p/src/a/b/....json" "a*" gets gives 0 0 "")
    ∷ (C "/p/src/a" "." gets gives 0 0 "")
    ∷ (C "/ab" "ab" gets gives 0 0 "")
    ∷ (T "/p/src/a/b/....json" "/" "@f/band" gets gives 0 0 "")
    ∷ (T "/p/none" "/node_modules" "./bc" gets refuses 8 65535)
    ∷ (T "/p/a.ts/" "/" "@f/band" gets refuses 7 0)
    ∷ [])
unfolding tell
book_000003 = refl

-- BEGIN "/p/A.json", INCLUDE, include "${configDir}/**/*", ROOTDIRS, rootDir "./gen", rootDir "${configDir}/src", rootDir "/p/src//", reference
-- "../p/A.json", baseUrl "a//b/", flag 1 0, text 0 "esnext", text 1 "/", END, BEGIN "/q/tsconfig.json", flag 6 0, baseUrl "..", reference
-- "../q/tsconfig", EXCLUDE, END
pub book_000004 :
    Answers "\u{1}\0\0\t\0\u{4}\u{5}\t\0\u{11}\0\u{e}\u{f}\u{1a}\0\u{5}\0\u{f}\u{1f}\0\u{10}\0\u{f}/\0\u{8}\0\r7\0\u{b}\0\tB\0\u{5}\0\u{12}\u{1}\0\u{13}\0G\0\u{6}\0\u{13}\u{1}M\0\u{1}\0\u{14}\u{1}N\0\u{10}\0\u{12}\u{6}\0\t^\0\u{2}\0\r`\0\r\0\u{6}\u{14}" "/p/A.json${configDir}/**/*./gen${configDir}/src/p/src//../p/A.jsona//b/esnext//q/tsconfig.json..../q/tsconfig"
    ((B "/q/tsconfig.json" gets refuses 10 1)
    ∷ (B "/p/A.json" gets refuses 10 0)
    ∷ (B "/p/A.json" gets refuses 10 0)
    ∷ (O "/q/a.vue" gets refuses 10 1)
    ∷ (O "/q/k.ts" gets refuses 10 1)
    ∷ (O "/q/k.ts" gets refuses 10 1)
    ∷ (O "/q/x.mts" gets refuses 10 1)
    ∷ (O "/p/x/a.ts" gets gives 65535 65535 "")
    ∷ (O "/k/k.ts" gets gives 65535 65535 "")
    ∷ (C "/p/A.json" "./" gets refuses 10 0)
    ∷ (C "/p/A" "@f/" gets refuses 10 0)
    ∷ (C "/p/A.json" "../../.." gets refuses 10 0)
    ∷ (T "?" "/p" "a*" gets refuses 7 0)
    ∷ (T "/p/A.json" "/p/src/a/b" "../gen/x" gets refuses 10 0)
    ∷ (T "/p/é" "/p" "b/x/a.b" gets refuses 7 0)
    ∷ (T "/p/A" "/p" "../" gets refuses 10 0)
    ∷ [])
unfolding tell
book_000004 = refl

-- BEGIN "/q/tsconfig.json", FILES, file "k.ts", file "${configDir}/k.ts", file "/p/src/../k.ts", EXCLUDE, exclude "**/?.ts", exclude "b", PATHS, key
-- "a**", target "..", extends "../p/b/tsconfig", extends "/p/b/tsconfig", flag 7 1, flag 8 0, END, BEGIN "/p/tsconfig.json", flag 8 1, FILES, INCLUDE,
-- file "x", extends "./b/tsconfig", extends "./b/tsconfig", extends "...", extends "./b/tsconfig//", END, BEGIN "/p/b/tsconfig", PATHS, key "a**",
-- target "/u/../v", flag 2 0, flag 8 1, END
pub book_000005 :
    Answers "\u{1}\0\0\u{10}\0\u{2}\u{3}\u{10}\0\u{4}\0\u{3}\u{14}\0\u{11}\0\u{3}%\0\u{e}\0\u{6}\u{7}3\0\u{7}\0\u{7}:\0\u{1}\0\n\u{b};\0\u{3}\0\u{c}>\0\u{2}\0\u{8}@\0\u{f}\0\u{8}O\0\r\0\u{12}\u{7}\u{1}\u{12}\u{8}\0\u{14}\u{1}\\\0\u{10}\0\u{12}\u{8}\u{1}\u{2}\u{4}\u{3}l\0\u{1}\0\u{8}m\0\u{c}\0\u{8}m\0\u{c}\0\u{8}y\0\u{3}\0\u{8}|\0\u{e}\0\u{14}\u{1}O\0\r\0\n\u{b};\0\u{3}\0\u{c}\u{8a}\0\u{7}\0\u{12}\u{2}\0\u{12}\u{8}\u{1}\u{14}" "/q/tsconfig.jsonk.ts${configDir}/k.ts/p/src/../k.ts**/?.tsba**..../p/b/tsconfig/p/b/tsconfig/p/tsconfig.jsonx./b/tsconfig..../b/tsconfig///u/../v"
    ((B "/q/tsconfig.json" gets gives 0 2 "files=/q/k.ts\nfiles=/q/k.ts\nfiles=/p/src/../k.ts\nexclude=/q/**/?.ts\nexclude=/q/b\nbase=/q\nkey=a**\ntarget=/\nflag 2=0\nflag 7=1\nflag 8=0\n")
    ∷ (B "/p/tsconfig.json" gets refuses 8 1)
    ∷ (B "/p/b/tsconfig" gets gives 2 0 "base=/p/b\nkey=a**\ntarget=/u/../v\nflag 2=0\nflag 8=1\n")
    ∷ (B "/p/b/tsconfig" gets gives 2 0 "base=/p/b\nkey=a**\ntarget=/u/../v\nflag 2=0\nflag 8=1\n")
    ∷ (O "/p/k.ts" gets refuses 8 1)
    ∷ (O "/p/k.ts" gets refuses 8 1)
    ∷ (O "/p/p/k.ts" gets refuses 8 1)
    ∷ (O "/p/k.ts" gets refuses 8 1)
    ∷ (O "/p/x/src.tsx" gets refuses 8 1)
    ∷ (O "/p/a.ts" gets refuses 8 1)
    ∷ (O "/q/a.json" gets gives 65535 65535 "")
    ∷ (O "/x/a.ts" gets gives 65535 65535 "")
    ∷ (C "/." "a**" gets refuses 7 0)
    ∷ (C "/p/tsconfig.json" "a/.." gets refuses 8 1)
    ∷ (C "/q" "a../z*" gets gives 1 0 "\u{1}\0/")
    ∷ (T "/p" "/p/b" "a**" gets refuses 8 1)
    ∷ (T "/q/tsconfig.json" "/p/gen" "a../z*" gets gives 1 0 "\u{1}\0/")
    ∷ (T "/p/tsconfig" "/p/src/a/b" "ac*" gets refuses 8 1)
    ∷ (T "/p/b/tsconfig" "/p/node_modulesx" "a./*" gets gives 1 0 "\u{7}\0/u/../v")
    ∷ (T "/p" "/p/src" "ab*" gets refuses 8 1)
    ∷ [])
unfolding tell
book_000005 = refl

-- BEGIN "/p/tsconfig.json", INCLUDE, include "${configDir}/", PATHS, extends "./node_modules/m/....json", baseUrl ".", flag 0 0, END, BEGIN
-- "/p/node_modules/m/....json", INCLUDE, include "${configDir}**", include "/p/a/*.ts/**", extends "../../tsconfig", baseUrl "//u//w", flag 5 0, flag 8
-- 1, text 0 "aa.ab/.b", END, BEGIN "/p/src/tsconfig.json", text 2 "it's", extends "./b/../../tsconfig", flag 4 1, END, BEGIN "/p/tsconfig",
-- declarationDir "\n", flag 9 0, flag 8 0, ROOTDIRS, baseUrl "${configDir}", END
pub book_000006 :
    Answers "\u{1}\0\0\u{10}\0\u{4}\u{5}\u{10}\0\r\0\n\u{8}\u{1d}\0\u{19}\0\t6\0\u{1}\0\u{12}\0\0\u{14}\u{1}7\0\u{1a}\0\u{4}\u{5}Q\0\u{e}\0\u{5}_\0\u{c}\0\u{8}k\0\u{e}\0\ty\0\u{6}\0\u{12}\u{5}\0\u{12}\u{8}\u{1}\u{13}\0\u{7f}\0\u{8}\0\u{14}\u{1}\u{87}\0\u{14}\0\u{13}\u{2}\u{9b}\0\u{4}\0\u{8}\u{9f}\0\u{12}\0\u{12}\u{4}\u{1}\u{14}\u{1}±\0\u{b}\0\u{11}¼\0\u{1}\0\u{12}\t\0\u{12}\u{8}\0\u{e}\t½\0\u{c}\0\u{14}" "/p/tsconfig.json${configDir}/./node_modules/m/....json./p/node_modules/m/....json${configDir}**/p/a/*.ts/**../../tsconfig//u//waa.ab/.b/p/src/tsconfig.jsonit's./b/../../tsconfig/p/tsconfig\n${configDir}"
    ((B "/p/tsconfig.json" gets refuses 4 90)
    ∷ (B "/p/src/tsconfig.json" gets refuses 4 90)
    ∷ (B "/p/tsconfig" gets refuses 4 90)
    ∷ (B "/p" gets refuses 4 90)
    ∷ (O "/a/x.d.TS" gets refuses 4 90)
    ∷ (O "/p/k.ts" gets refuses 4 90)
    ∷ (O "/p/x.ts" gets refuses 4 90)
    ∷ (C "/p" "a" gets refuses 4 90)
    ∷ (C "/p/src" "a/./b/" gets refuses 4 90)
    ∷ (C "/p/tsconfig" "..." gets refuses 4 90)
    ∷ (C "/p/tsconfig" "/abs/x" gets refuses 4 90)
    ∷ (C "/p/node_modules/m/....json" "src/a" gets refuses 4 90)
    ∷ (T "/p/tsconfig" "/p/node_modulesx" "/*bb/*" gets refuses 4 90)
    ∷ (T "/p/src/tsconfig.json" "/u/w" "ac" gets refuses 4 90)
    ∷ (T "/p" "/p/src" "a/../.." gets refuses 4 90)
    ∷ (T "/p/node_modules/m/....json" "/p/src/a" "${configDir}x" gets refuses 4 90)
    ∷ (T "/p/tsconfig" "/p/b" "a/../.." gets refuses 4 90)
    ∷ [])
unfolding tell
book_000006 = refl

-- BEGIN "/p/src/tsconfig.json", INCLUDE, include "**/", include "a*b*c", include "./../a/k.ts", flag 2 0, flag 3 0, text 0 "it's", END, BEGIN
-- "/p/src/tsconfig.json"
pub book_000007 :
    Answers "\u{1}\0\0\u{14}\0\u{4}\u{5}\u{14}\0\u{3}\0\u{5}\u{17}\0\u{5}\0\u{5}\u{1c}\0\u{b}\0\u{12}\u{2}\0\u{12}\u{3}\0\u{13}\0'\0\u{4}\0\u{14}\u{1}\0\0\u{14}\0" "/p/src/tsconfig.json**/a*b*c./../a/k.tsit's"
    ((B "/p/src/tsconfig.json" gets refuses 6 34)
    ∷ (B "/p" gets refuses 6 34)
    ∷ (B "/p/src" gets refuses 6 34)
    ∷ (O "/p/src/x.t" gets refuses 6 34)
    ∷ (O "/p/src/src/k.ts" gets refuses 6 34)
    ∷ (O "/k.ts" gets refuses 6 34)
    ∷ (O "/p/src/aabac/x.ts" gets refuses 6 34)
    ∷ (O "/p/src/ax.ybx.yc" gets refuses 6 34)
    ∷ (O "/p/src/k.t" gets refuses 6 34)
    ∷ (O "/p/a/k.ts" gets refuses 6 34)
    ∷ (C "/p/src/tsconfig" "a*" gets refuses 6 34)
    ∷ (C "/p/src" "axb*" gets refuses 6 34)
    ∷ (T "/p/src" "/p/b" "\"q" gets refuses 6 34)
    ∷ (T "/p/src/tsconfig" "/node_modules" "a/../.." gets refuses 6 34)
    ∷ (T "/p/src" "/p/src/a/b" "a*" gets refuses 6 34)
    ∷ [])
unfolding tell
book_000007 = refl

-- BEGIN "/p/tsconfig.json", INCLUDE, include "**/a*", END, BEGIN "/p/.x.json", flag 8 1, baseUrl "", FILES, file "src/a.ts", file "/p/src/a.ts", flag 9
-- 1, END, BEGIN "/p/src/a/b/tsconfig.json", ROOTDIRS, rootDir "src/a", rootDir "/", declarationDir "/o", flag 9 0, text 0 "", text 3 "x y", END, BEGIN
-- "/q/tsconfig.json", INCLUDE, include "", PATHS, flag 2 0, flag 9 1, flag 10 0, text 5 "${configDir}", END, BEGIN "/tsconfig.json", PATHS, key
-- "/abs/*", extends ".//p/b/r", baseUrl "${configDir}/b", declarationDir "..a", flag 3 0, flag 5 0, text 4 "", END, BEGIN "/p/b/r.json", PATHS, key
-- "*c", target "./*", key "\"*", target "filt/*", reference "/p/src/a/b", flag 4 1, text 6 "", END
pub book_000009 :
    Answers "\u{1}\0\0\u{10}\0\u{4}\u{5}\u{10}\0\u{5}\0\u{14}\u{1}\u{15}\0\n\0\u{12}\u{8}\u{1}\t\u{1f}\0\0\0\u{2}\u{3}\u{1f}\0\u{8}\0\u{3}'\0\u{b}\0\u{12}\t\u{1}\u{14}\u{1}2\0\u{18}\0\u{e}\u{f}J\0\u{5}\0\u{f}O\0\u{1}\0\u{11}P\0\u{2}\0\u{12}\t\0\u{13}\0\u{1f}\0\0\0\u{13}\u{3}R\0\u{3}\0\u{14}\u{1}U\0\u{10}\0\u{4}\u{5}\u{1f}\0\0\0\n\u{12}\u{2}\0\u{12}\t\u{1}\u{12}\n\0\u{13}\u{5}e\0\u{c}\0\u{14}\u{1}q\0\u{e}\0\n\u{b}\u{7f}\0\u{6}\0\u{8}\u{85}\0\u{8}\0\t\u{8d}\0\u{e}\0\u{11}\u{9b}\0\u{3}\0\u{12}\u{3}\0\u{12}\u{5}\0\u{13}\u{4}\u{1f}\0\0\0\u{14}\u{1}\u{9e}\0\u{b}\0\n\u{b}©\0\u{2}\0\u{c}«\0\u{3}\0\u{b}®\0\u{2}\0\u{c}°\0\u{6}\0\r¶\0\n\0\u{12}\u{4}\u{1}\u{13}\u{6}\u{1f}\0\0\0\u{14}" "/p/tsconfig.json**/a*/p/.x.jsonsrc/a.ts/p/src/a.ts/p/src/a/b/tsconfig.jsonsrc/a//ox y/q/tsconfig.json${configDir}/tsconfig.json/abs/*.//p/b/r${configDir}/b..a/p/b/r.json*c./*\"*filt/*/p/src/a/b"
    ((B "/p/tsconfig.json" gets gives 0 0 "include=/p/**/a*\nbase=/p\n")
    ∷ (B "/p/.x.json" gets gives 1 0 "files=/p/src/a.ts\nfiles=/p/src/a.ts\nbaseUrl=\nbase=\nflag 8=1\nflag 9=1\n")
    ∷ (B "/q/tsconfig.json" gets gives 3 0 "include=\nbase=/q\npaths\nflag 2=0\nflag 9=1\nflag 10=0\ntext 5=${configDir}\n")
    ∷ (B "/tsconfig.json" gets gives 4 1 "baseUrl=/b\nbase=/b\nkey=/abs/*\ndeclarationDir=/..a\nflag 3=0\nflag 4=1\nflag 5=0\ntext 4=\ntext 6=\n")
    ∷ (O "/ab/.cts" gets gives 65535 65535 "")
    ∷ (O "/p/x.ts" gets gives 4 4 "")
    ∷ (O "/k.ts" gets gives 4 4 "")
    ∷ (O "/a.t" gets gives 65535 65535 "")
    ∷ (O "/p/a.ts" gets gives 0 0 "")
    ∷ (O "/p/x.d.cjs" gets gives 65535 65535 "")
    ∷ (O "/p/x.ts" gets gives 4 4 "")
    ∷ (C "/p" "../../.." gets gives 0 0 "")
    ∷ (C "/q/tsconfig.json" "./../../gen/x" gets gives 0 0 "")
    ∷ (T "/p/b/r" "/p/gen" "\"c" gets gives 1 0 "\u{b}\0/p/b/filt/c")
    ∷ (T "/q/tsconfig.json" "/p/src/a/b" "@f/" gets gives 0 0 "")
    ∷ [])
unfolding tell
book_000009 = refl

-- BEGIN "/A.json", PATHS, extends "./q/d", extends "/p", reference "/q/B", reference ".//p/src/tsconfig", baseUrl "${configDir}/b", END, BEGIN
-- "/q/B.json", flag 8 1, reference "d", PATHS, baseUrl "${configDir}/b", key "ab*", key "", key "@f*", target "${configDir}//../*", key "@f/*", target
-- "bb*", END, BEGIN "/p/tsconfig.json", baseUrl "/u/w/..", flag 2 1, PATHS, flag 1 0, key "ab*bc", target "./../*", key "a*b*", flag 10 0, extends
-- "../q/B", extends "../q/d", extends "../q/d", key "@f/*", target "*", target "..", FILES, file "//p/k.ts", file ".ts", END, BEGIN "/q/d", INCLUDE,
-- flag 5 1, flag 1 0, extends "../p/src/tsconfig", include "**/", extends "../p/src/tsconfig", extends "../p/src/tsconfig", extends "/p/src/tsconfig",
-- END, BEGIN "/p/src/tsconfig", text 0 "k.ts/a.b", flag 8 0, extends "${configDir}/x", text 6 "it's", INCLUDE, include "a*b*c", include "*/", PATHS, key
-- "k", target "//a/*", include "../**/*.ts", END
pub book_000010 :
    Answers "\u{1}\0\0\u{7}\0\n\u{8}\u{7}\0\u{5}\0\u{8}\u{c}\0\u{2}\0\r\u{e}\0\u{4}\0\r\u{12}\0\u{11}\0\t#\0\u{e}\0\u{14}\u{1}1\0\t\0\u{12}\u{8}\u{1}\r:\0\u{1}\0\n\t#\0\u{e}\0\u{b};\0\u{3}\0\u{b}>\0\0\0\u{b}>\0\u{3}\0\u{c}A\0\u{12}\0\u{b}S\0\u{4}\0\u{c}W\0\u{3}\0\u{14}\u{1}Z\0\u{10}\0\tj\0\u{7}\0\u{12}\u{2}\u{1}\n\u{12}\u{1}\0\u{b}q\0\u{5}\0\u{c}v\0\u{6}\0\u{b}|\0\u{4}\0\u{12}\n\0\u{8}\u{80}\0\u{6}\0\u{8}\u{86}\0\u{6}\0\u{8}\u{86}\0\u{6}\0\u{b}S\0\u{4}\0\u{c}\u{8c}\0\u{1}\0\u{c}\u{8d}\0\u{2}\0\u{2}\u{3}\u{8f}\0\u{8}\0\u{3}\u{97}\0\u{3}\0\u{14}\u{1}\u{9a}\0\u{4}\0\u{4}\u{12}\u{5}\u{1}\u{12}\u{1}\0\u{8}\u{9e}\0\u{11}\0\u{5}¯\0\u{3}\0\u{8}\u{9e}\0\u{11}\0\u{8}\u{9e}\0\u{11}\0\u{8}²\0\u{f}\0\u{14}\u{1}²\0\u{f}\0\u{13}\0Á\0\u{8}\0\u{12}\u{8}\0\u{8}É\0\u{e}\0\u{13}\u{6}×\0\u{4}\0\u{4}\u{5}Û\0\u{5}\0\u{5}à\0\u{2}\0\n\u{b}â\0\u{1}\0\u{c}ã\0\u{5}\0\u{5}è\0\n\0\u{14}" "/A.json./q/d/p/q/B.//p/src/tsconfig${configDir}/b/q/B.jsondab*@f*${configDir}//../*@f/*bb*/p/tsconfig.json/u/w/..ab*bc./../*a*b*../q/B../q/d*..//p/k.ts.ts/q/d../p/src/tsconfig**//p/src/tsconfigk.ts/a.b${configDir}/xit'sa*b*c*/k//a/*../**/*.ts"
    ((B "/p/src/tsconfig" gets refuses 12 4)
    ∷ (B "/A.json" gets refuses 12 4)
    ∷ (B "/q/B.json" gets refuses 12 4)
    ∷ (B "/p" gets refuses 12 4)
    ∷ (O "/." gets refuses 7 0)
    ∷ (O "/a/.a/.ts" gets gives 65535 65535 "")
    ∷ (O "/index.ts" gets gives 65535 65535 "")
    ∷ (O "/p/k.tsx" gets refuses 12 4)
    ∷ (O "/p/k.cjs" gets refuses 12 4)
    ∷ (O "/p/k/k.ts" gets refuses 12 4)
    ∷ (O "/p/k" gets refuses 12 4)
    ∷ (O "/a/.d.ts" gets gives 65535 65535 "")
    ∷ (C "/p/src/tsconfig" ".." gets refuses 12 4)
    ∷ (C "/q/d" "ab" gets refuses 12 4)
    ∷ (C "/p/src/tsconfig" "@fx" gets refuses 12 4)
    ∷ (C "/A" "" gets refuses 12 4)
    ∷ (C "?" "ab./" gets refuses 7 0)
    ∷ (C "/p/src/tsconfig" "/abs/x" gets refuses 12 4)
    ∷ (T "/p/src/tsconfig" "/p/gen" "ab../z" gets refuses 12 4)
    ∷ (T "/q/d" "/u/w" "x" gets refuses 12 4)
    ∷ [])
unfolding tell
book_000010 = refl

-- BEGIN "/q/tsconfig.json", FILES, file "${configDir}/k.ts", file ".ts", file "src//a.ts", extends "../tsconfig", extends "./b/../../tsconfig", extends
-- "..//tsconfig", extends "..", flag 8 1, END, BEGIN "/tsconfig.json", PATHS, key "*k", target "**", target "t/*/*", target "${configDir}/*", key "*/x",
-- target "${configDir}*", extends "/p/src/tsconfig", reference "./b/.././q/tsconfig.json", reference "./q/tsconfig/x/..", reference
-- "/p/src/tsconfig.json", flag 0 1, text 3 "it's", END, BEGIN "/a/r.json", text 3 "/", ROOTDIRS, extends "/p/src", rootDir "node_modules", extends
-- "/p/src", rootDir "/p/src//", text 5 "it's", flag 6 0, END, BEGIN "/ab/tsconfig.json", EXCLUDE, exclude "**/node_modules/**", exclude
-- "**/node_modules/**", exclude "/p/**/*", extends "./b/../..", extends ".", extends "./b/../..", extends "../p/src", extends "/tsconfig", extends
-- "./b/../..", declarationDir ".", flag 0 1, flag 7 1, flag 8 1, text 2 "esnext", END, BEGIN "/p/src/tsconfig.json", FILES, file "../a.ts", INCLUDE,
-- include "**/*", PATHS, key "a*c", baseUrl "x*", outDir "../../../..", declarationDir "dist", END
pub book_000011 :
    Answers "\u{1}\0\0\u{10}\0\u{2}\u{3}\u{10}\0\u{11}\0\u{3}!\0\u{3}\0\u{3}$\0\t\0\u{8}-\0\u{b}\0\u{8}8\0\u{12}\0\u{8}J\0\u{c}\0\u{8}V\0\u{2}\0\u{12}\u{8}\u{1}\u{14}\u{1}X\0\u{e}\0\n\u{b}f\0\u{2}\0\u{c}h\0\u{2}\0\u{c}j\0\u{5}\0\u{c}o\0\u{e}\0\u{b}}\0\u{3}\0\u{c}\u{80}\0\r\0\u{8}\u{8d}\0\u{f}\0\r\u{9c}\0\u{18}\0\r´\0\u{11}\0\rÅ\0\u{14}\0\u{12}\0\u{1}\u{13}\u{3}Ù\0\u{4}\0\u{14}\u{1}Ý\0\t\0\u{13}\u{3}æ\0\u{1}\0\u{e}\u{8}ç\0\u{6}\0\u{f}í\0\u{c}\0\u{8}ç\0\u{6}\0\u{f}ù\0\u{8}\0\u{13}\u{5}Ù\0\u{4}\0\u{12}\u{6}\0\u{14}\u{1}\u{1}\u{1}\u{11}\0\u{6}\u{7}\u{12}\u{1}\u{12}\0\u{7}\u{12}\u{1}\u{12}\0\u{7}$\u{1}\u{7}\0\u{8}+\u{1}\t\0\u{8}4\u{1}\u{1}\0\u{8}+\u{1}\t\0\u{8}5\u{1}\u{8}\0\u{8}=\u{1}\t\0\u{8}+\u{1}\t\0\u{11}4\u{1}\u{1}\0\u{12}\0\u{1}\u{12}\u{7}\u{1}\u{12}\u{8}\u{1}\u{13}\u{2}F\u{1}\u{6}\0\u{14}\u{1}Å\0\u{14}\0\u{2}\u{3}L\u{1}\u{7}\0\u{4}\u{5}S\u{1}\u{4}\0\n\u{b}W\u{1}\u{3}\0\tZ\u{1}\u{2}\0\u{10}\\\u{1}\u{b}\0\u{11}g\u{1}\u{4}\0\u{14}" "/q/tsconfig.json${configDir}/k.ts.tssrc//a.ts../tsconfig./b/../../tsconfig..//tsconfig../tsconfig.json*k**t/*/*${configDir}/**/x${configDir}*/p/src/tsconfig./b/.././q/tsconfig.json./q/tsconfig/x/../p/src/tsconfig.jsonit's/a/r.json//p/srcnode_modules/p/src///ab/tsconfig.json**/node_modules/**/p/**/*./b/../...../p/src/tsconfigesnext../a.ts**/*a*cx*../../../..dist"
    ((B "/p/src/tsconfig.json" gets gives 4 0 "files=/p/a.ts\ninclude=/p/src/**/*\nbaseUrl=/p/src/x*\nbase=/p/src/x*\nkey=a*c\noutDir=/\ndeclarationDir=/p/src/dist\n")
    ∷ (B "/p/src" gets gives 4 0 "files=/p/a.ts\ninclude=/p/src/**/*\nbaseUrl=/p/src/x*\nbase=/p/src/x*\nkey=a*c\noutDir=/\ndeclarationDir=/p/src/dist\n")
    ∷ (B "" gets refuses 7 0)
    ∷ (B "/p/src" gets gives 4 0 "files=/p/a.ts\ninclude=/p/src/**/*\nbaseUrl=/p/src/x*\nbase=/p/src/x*\nkey=a*c\noutDir=/\ndeclarationDir=/p/src/dist\n")
    ∷ (O "/k.ts" gets gives 1 1 "")
    ∷ (O "/a.ts" gets gives 1 1 "")
    ∷ (O "/a.ts" gets gives 1 1 "")
    ∷ (O "/ab/x.ts" gets refuses 9 3)
    ∷ (O "/src/..ts" gets gives 1 1 "")
    ∷ (O "/ab/ab.ts" gets refuses 9 3)
    ∷ (C "/q/tsconfig" "abc" gets gives 1 0 "\r\0/p/src/x*/abc")
    ∷ (C "/a/r.json" "./a.ts" gets gives 1 0 "\u{e}\0/p/src/x*/a.ts")
    ∷ (T "//p" "/node_modules" "ac" gets refuses 7 0)
    ∷ (T "/p/src/tsconfig" "/p/src" "abcc" gets gives 1 0 "\u{e}\0/p/src/x*/abcc")
    ∷ (T "/ab/tsconfig.json" "/p/node_modules/m" "xk" gets refuses 9 3)
    ∷ (T "/" "/p/src/a" "a/./b/" gets gives 1 0 "\r\0/p/src/x*/a/b")
    ∷ [])
unfolding tell
book_000011 = refl

-- BEGIN "/p/node_modules/m/tsconfig.json", flag 2 1, INCLUDE, PATHS, ROOTDIRS, include "**/a*", flag 7 0, outDir "${configDir}/../o/", rootDir
-- "/p/src//", include "x.*", include "*/*.ts", rootDir "", rootDir "gen", key "*c", target "./../*", target "../../*", target "//a/*", END, BEGIN
-- "/p/..d", flag 6 0, ROOTDIRS, flag 9 1, INCLUDE, include "k.ts", EXCLUDE, flag 3 0, exclude "./*.ts", text 3 "", END, BEGIN
-- "/p/src/a/b/tsconfig.json", PATHS, key "/abs/*", extends "../../../..d", extends "../../../..d", baseUrl "", text 2 "x y", text 5 "/", END, BEGIN
-- "/a/d", extends "/p/src/a/b", extends "../p/src/a/tsconfig.json", extends "../p/..d", reference "../p/src/a/b/tsconfig.json", reference
-- "./b/../../p/node_modules/m/tsconfig.json", reference "/p/..d", flag 0 1, flag 9 1, END, BEGIN "/p/src/a/tsconfig.json", FILES, file
-- "${configDir}/k/lib", ROOTDIRS, rootDir "/p/./src", extends "./b/../../../..d", extends "./b/tsconfig", extends "./b/tsconfig", flag 0 1, flag 6 1,
-- text 5 "esnext", text 6 "", END
pub book_000012 :
    Answers "\u{1}\0\0\u{1f}\0\u{12}\u{2}\u{1}\u{4}\n\u{e}\u{5}\u{1f}\0\u{5}\0\u{12}\u{7}\0\u{10}$\0\u{12}\0\u{f}6\0\u{8}\0\u{5}>\0\u{3}\0\u{5}A\0\u{6}\0\u{f}G\0\0\0\u{f}G\0\u{3}\0\u{b}J\0\u{2}\0\u{c}L\0\u{6}\0\u{c}R\0\u{7}\0\u{c}Y\0\u{5}\0\u{14}\u{1}^\0\u{6}\0\u{12}\u{6}\0\u{e}\u{12}\t\u{1}\u{4}\u{5}d\0\u{4}\0\u{6}\u{12}\u{3}\0\u{7}h\0\u{6}\0\u{13}\u{3}G\0\0\0\u{14}\u{1}n\0\u{18}\0\n\u{b}\u{86}\0\u{6}\0\u{8}\u{8c}\0\u{c}\0\u{8}\u{8c}\0\u{c}\0\tG\0\0\0\u{13}\u{2}\u{98}\0\u{3}\0\u{13}\u{5}\u{9b}\0\u{1}\0\u{14}\u{1}\u{9c}\0\u{4}\0\u{8}\u{a0}\0\n\0\u{8}ª\0\u{18}\0\u{8}Â\0\u{8}\0\rÊ\0\u{1a}\0\rä\0(\0\r^\0\u{6}\0\u{12}\0\u{1}\u{12}\t\u{1}\u{14}\u{1}\u{c}\u{1}\u{16}\0\u{2}\u{3}\"\u{1}\u{12}\0\u{e}\u{f}4\u{1}\u{8}\0\u{8}<\u{1}\u{10}\0\u{8}L\u{1}\u{c}\0\u{8}L\u{1}\u{c}\0\u{12}\0\u{1}\u{12}\u{6}\u{1}\u{13}\u{5}X\u{1}\u{6}\0\u{13}\u{6}G\0\0\0\u{14}" "/p/node_modules/m/tsconfig.json**/a*${configDir}/../o//p/src//x.**/*.tsgen*c./../*../../*//a/*/p/..dk.ts./*.ts/p/src/a/b/tsconfig.json/abs/*../../../..dx y//a/d/p/src/a/b../p/src/a/tsconfig.json../p/..d../p/src/a/b/tsconfig.json./b/../../p/node_modules/m/tsconfig.json/p/src/a/tsconfig.json${configDir}/k/lib/p/./src./b/../../../..d./b/tsconfigesnext"
    ((B "/p/node_modules/m/tsconfig.json" gets gives 0 0 "include=/p/node_modules/m/**/a*\ninclude=/p/node_modules/m/x.*\ninclude=/p/node_modules/m/*/*.ts\nbase=/p/node_modules/m\nkey=*c\ntarget=/p/node_modules/*\ntarget=/p/*\ntarget=//a/*\nrootDir=/p/src//\nrootDir=\nrootDir=/p/node_modules/m/gen\noutDir=/p/node_modules/m/../o/\nflag 2=1\nflag 7=0\n")
    ∷ (B "/p/../a.ts" gets refuses 7 0)
    ∷ (O "/p/node_modules/m/a/ab.js" gets gives 65535 65535 "")
    ∷ (O "/p/node_modules/m/x.ts" gets gives 65535 65535 "")
    ∷ (O "/x.ts" gets gives 65535 65535 "")
    ∷ (O "/p/src/a/b/..ts" gets gives 65535 65535 "")
    ∷ (O "/p/node_modules/m/b/k.ts" gets gives 65535 65535 "")
    ∷ (O "/p/src/a/k.ts" gets gives 65535 65535 "")
    ∷ (O "/p/src/a/b/x..tsx" gets gives 65535 65535 "")
    ∷ (C "/a/d" "abc" gets gives 1 0 "\u{3}\0abc")
    ∷ (C "/p/./a.ts" "/abs/c" gets refuses 7 0)
    ∷ (T "/p/node_modules/m" "/p/gen" "@f/a/x" gets gives 0 0 "")
    ∷ (T "/p/src/a/tsconfig.json" "/u/w" "a/.." gets gives 1 0 "\0\0")
    ∷ [])
unfolding tell
book_000012 = refl

-- BEGIN "/tsconfig.json", extends "./tsconfig", outDir "${configDir}/o", text 3 "\"", declarationDir "./dist/", flag 8 1, flag 7 0, extends "./a", text
-- 4 "${configDir}", END, BEGIN "/q/r.json", FILES, file "src//a.ts", PATHS, key "x", target "../*", key "a*b*", target "src/*", target "src/*", key
-- "*k", target "", target "${configDir}/lib", key "@*", target "//a/*", key "*", target "*a*", END, BEGIN "/a/tsconfig.json", PATHS, key "@f/*/x",
-- target "filt/*", target "x", target "//a/*", key "./u/a.b/lib", ROOTDIRS, rootDir "/p/src//", END
pub book_000013 :
    Answers "\u{1}\0\0\u{e}\0\u{8}\u{e}\0\n\0\u{10}\u{18}\0\u{e}\0\u{13}\u{3}&\0\u{1}\0\u{11}'\0\u{7}\0\u{12}\u{8}\u{1}\u{12}\u{7}\0\u{8}.\0\u{3}\0\u{13}\u{4}1\0\u{c}\0\u{14}\u{1}=\0\t\0\u{2}\u{3}F\0\t\0\n\u{b}O\0\u{1}\0\u{c}P\0\u{4}\0\u{b}T\0\u{4}\0\u{c}X\0\u{5}\0\u{c}X\0\u{5}\0\u{b}]\0\u{2}\0\u{c}_\0\0\0\u{c}_\0\u{10}\0\u{b}o\0\u{2}\0\u{c}q\0\u{5}\0\u{b}v\0\u{1}\0\u{c}w\0\u{3}\0\u{14}\u{1}z\0\u{10}\0\n\u{b}\u{8a}\0\u{6}\0\u{c}\u{90}\0\u{6}\0\u{c}O\0\u{1}\0\u{c}q\0\u{5}\0\u{b}\u{96}\0\u{b}\0\u{e}\u{f}¡\0\u{8}\0\u{14}" "/tsconfig.json./tsconfig${configDir}/o\"./dist/./a${configDir}/q/r.jsonsrc//a.tsx../*a*b*src/**k${configDir}/lib@*//a/***a*/a/tsconfig.json@f/*/xfilt/*./u/a.b/lib/p/src//"
    ((B "/q/r.json" gets gives 1 0 "files=/q/src/a.ts\nbase=/q\nkey=x\ntarget=/*\nkey=a*b*\ntarget=/q/src/*\ntarget=/q/src/*\nkey=*k\ntarget=\ntarget=/q/lib\nkey=@*\ntarget=//a/*\nkey=*\ntarget=/q/*a*\n")
    ∷ (B "/tsconfig.json" gets refuses 9 0)
    ∷ (O "/aaaaaaaaaaaaaaaaaaaaaaaaaaaaaaaaaaaaaaaaaaaaaaaaaaaaaaaaaaaaaaaaaaaaaaaaaaaaaaaaaaaaaaaaaaaaaaaaaaaaaaaaaaaaaaaaaaaaaaaaaaaaaaaaaaaaaaaaaaaaaaaaaaaaaaaaaaaaaaaaaaaaaaaaaaaaaaaaaaaaaaaaaaaaaaaaaaaaaaaaaaaaaaaaaaaaaaaaaaaaaaaaaaaaaaaaaaaaaaaaaaaaaaaaaaaaaaaaaaaaaaaaaaaaaaaaaaaaaaaaaaaaaaaaaaaaaaaaaaaaaaaaaaaaaaaaaaaaaaaaaaaaaaaaaaaaaaaaaaaaaaaaaaaaaaaaaaaaaaaaaaaaaaaaaaaaaaaaaaaaaaaaaaaaaaaaaaaaaaaaaaaaaaaaaaaaaaaaaaaaaaaaaaaaaaaaaaaaaaaaaaaaaaaaaaaaaaaaaaaaaaaaaaaaaaaaaaaaaaaaaaaaaaaaaaaaaaaaaaaaaaaaaaaaaaaa" gets refuses 7 0)
    ∷ (O "/q/r.json" gets refuses 9 0)
    ∷ (O "/a/a.ts" gets gives 2 2 "")
    ∷ (O "/x.js" gets refuses 9 0)
    ∷ (O "/k.ts" gets refuses 9 0)
    ∷ (O "/x.ts" gets refuses 9 0)
    ∷ (C "/tsconfig.json" "bc" gets refuses 9 0)
    ∷ (C "/a" "a" gets gives 0 0 "")
    ∷ (C "/a" "ck" gets gives 0 0 "")
    ∷ (T "/a/tsconfig" "/u/w" "a./b*" gets gives 0 0 "")
    ∷ (T "/" "/p" "b" gets refuses 9 0)
    ∷ (T "/p/src" "/node_modules" "x" gets refuses 8 65535)
    ∷ (T "/q/r.json" "/u/w" "/abs/x" gets gives 1 0 "\u{b}\0/q//abs/xa*")
    ∷ (T "/q/r.json" "/p/node_modulesx" "abc" gets gives 1 0 "\u{8}\0/q/abca*")
    ∷ [])
unfolding tell
book_000013 = refl

-- BEGIN "/p/src/a/b/tsconfig.json", FILES, file "//p/k.ts", file "//p/k.ts", INCLUDE, include "", include "../**/*.ts", include "b", ROOTDIRS, rootDir
-- "/", extends "../../../../ab/a.ts", flag 3 1, flag 9 0, END, BEGIN "/p/b/tsconfig.json", PATHS, key "@f*", target "/", target "../../*", extends
-- "../d.json", extends "../../q/a.ts", extends "../src/a/b", extends "/q/a.ts", flag 5 0, END, BEGIN "/ab/a.ts", EXCLUDE, exclude "/p/**/*", exclude
-- "**/*.ts/a/**", exclude "**", ROOTDIRS, rootDir "src", extends "../p/src/x", flag 0 0, flag 1 1, flag 6 1, flag 8 1, END, BEGIN "/p/d.json", extends
-- "../q/a.ts", baseUrl "${configDir}", outDir "./u/u/./k.ts", flag 4 1, flag 9 0, END, BEGIN "/q/a.ts", INCLUDE, include "**/*.vue", include
-- "${configDir}/**/*", flag 2 1, flag 5 0, flag 8 0, text 6 "esnext", END, BEGIN "/p/src/x", PATHS, key ".x", target "//a/*", key "#a", target
-- "${configDir}//../*", target "//a/*", key "ab*", target "a//b/../*", key "*", target "./*", key "k*", target "..", flag 9 0, text 0 "${configDir}",
-- text 5 "it's", END
pub book_000015 :
    Answers "\u{1}\0\0\u{18}\0\u{2}\u{3}\u{18}\0\u{8}\0\u{3}\u{18}\0\u{8}\0\u{4}\u{5} \0\0\0\u{5} \0\n\0\u{5}*\0\u{1}\0\u{e}\u{f}+\0\u{1}\0\u{8},\0\u{13}\0\u{12}\u{3}\u{1}\u{12}\t\0\u{14}\u{1}?\0\u{12}\0\n\u{b}Q\0\u{3}\0\u{c}+\0\u{1}\0\u{c}T\0\u{7}\0\u{8}[\0\t\0\u{8}d\0\u{c}\0\u{8}p\0\n\0\u{8}z\0\u{7}\0\u{12}\u{5}\0\u{14}\u{1}\u{81}\0\u{8}\0\u{6}\u{7}\u{89}\0\u{7}\0\u{7}\u{90}\0\u{c}\0\u{7}\u{9c}\0\u{2}\0\u{e}\u{f}\u{9e}\0\u{3}\0\u{8}¡\0\n\0\u{12}\0\0\u{12}\u{1}\u{1}\u{12}\u{6}\u{1}\u{12}\u{8}\u{1}\u{14}\u{1}«\0\t\0\u{8}´\0\t\0\t½\0\u{c}\0\u{10}É\0\u{c}\0\u{12}\u{4}\u{1}\u{12}\t\0\u{14}\u{1}z\0\u{7}\0\u{4}\u{5}Õ\0\u{8}\0\u{5}Ý\0\u{11}\0\u{12}\u{2}\u{1}\u{12}\u{5}\0\u{12}\u{8}\0\u{13}\u{6}î\0\u{6}\0\u{14}\u{1}ô\0\u{8}\0\n\u{b}ü\0\u{2}\0\u{c}þ\0\u{5}\0\u{b}\u{3}\u{1}\u{2}\0\u{c}\u{5}\u{1}\u{12}\0\u{c}þ\0\u{5}\0\u{b}\u{17}\u{1}\u{3}\0\u{c}\u{1a}\u{1}\t\0\u{b}#\u{1}\u{1}\0\u{c}$\u{1}\u{3}\0\u{b}'\u{1}\u{2}\0\u{c})\u{1}\u{2}\0\u{12}\t\0\u{13}\0½\0\u{c}\0\u{13}\u{5}+\u{1}\u{4}\0\u{14}" "/p/src/a/b/tsconfig.json//p/k.ts../**/*.tsb/../../../../ab/a.ts/p/b/tsconfig.json@f*../../*../d.json../../q/a.ts../src/a/b/q/a.ts/ab/a.ts/p/**/***/*.ts/a/****src../p/src/x/p/d.json../q/a.ts${configDir}./u/u/./k.ts**/*.vue${configDir}/**/*esnext/p/src/x.x//a/*#a${configDir}//../*ab*a//b/../**./*k*..it's"
    ((B "/p/d.json" gets gives 3 1 "include=/p/**/*.vue\ninclude=/p/**/*\nbaseUrl=/p/\nbase=/p/\noutDir=/p/u/u/k.ts\nflag 2=1\nflag 4=1\nflag 5=0\nflag 8=0\nflag 9=0\ntext 6=esnext\n")
    ∷ (B "/q/a.ts" gets gives 4 0 "include=/q/**/*.vue\ninclude=/q/**/*\nbase=/q\nflag 2=1\nflag 5=0\nflag 8=0\ntext 6=esnext\n")
    ∷ (B "/p/src/x" gets gives 5 0 "base=/p/src\nkey=.x\ntarget=//a/*\nkey=#a\ntarget=/p/src/../*\ntarget=//a/*\nkey=ab*\ntarget=/p/src/a/*\nkey=*\ntarget=/p/src/*\nkey=k*\ntarget=/p\nflag 9=0\ntext 0=${configDir}\ntext 5=it's\n")
    ∷ (B "/q/a.ts" gets gives 4 0 "include=/q/**/*.vue\ninclude=/q/**/*\nbase=/q\nflag 2=1\nflag 5=0\nflag 8=0\ntext 6=esnext\n")
    ∷ (B "/ab/a.ts" gets gives 2 1 "exclude=/p/**/*\nexclude=/ab/**/*.ts/a/**\nexclude=/ab/**\nbase=/p/src\nkey=.x\ntarget=//a/*\nkey=#a\ntarget=/ab/../*\ntarget=//a/*\nkey=ab*\ntarget=/p/src/a/*\nkey=*\ntarget=/p/src/*\nkey=k*\ntarget=/p\nrootDir=/ab/src\nflag 0=0\nflag 1=1\nflag 6=1\nflag 8=1\nflag 9=0\ntext 0=${configDir}\ntext 5=it's\n")
    ∷ (O "/p/src/a/b/x.ts" gets gives 65535 65535 "")
    ∷ (O "/p/src/a/b/b/a.vue" gets gives 65535 65535 "")
    ∷ (O "/p/b/x.ts" gets gives 65535 65535 "")
    ∷ (O "/p/b/a/ab.ts" gets gives 65535 65535 "")
    ∷ (O "/p/src/a/b/x.ts" gets gives 65535 65535 "")
    ∷ (C "/p/b/tsconfig.json" "../gen/x" gets gives 1 0 "\u{8}\0/p/gen/x")
    ∷ (C "/p/b/tsconfig.json" "@f/band" gets gives 2 0 "\u{1}\0/\u{6}\0//band")
    ∷ (C "/q/a.ts" "ac" gets gives 0 0 "")
    ∷ (T "/q/a.ts" "/p/src" "b*" gets gives 0 0 "")
    ∷ (T "/p/b/tsconfig.json" "/u/w" "@f/band" gets gives 3 0 "\u{1}\0/\u{6}\0//band\u{c}\0/p/b/@f/band")
    ∷ [])
unfolding tell
book_000015 = refl

-- BEGIN "/q/..d", baseUrl "/u/w/", flag 4 1, flag 1 0, reference "none", FILES, file "//gen/k.ts/u", file "a.ts/.", END
pub book_000016 :
    Answers "\u{1}\0\0\u{6}\0\t\u{6}\0\u{5}\0\u{12}\u{4}\u{1}\u{12}\u{1}\0\r\u{b}\0\u{4}\0\u{2}\u{3}\u{f}\0\u{c}\0\u{3}\u{1b}\0\u{6}\0\u{14}" "/q/..d/u/w/none//gen/k.ts/ua.ts/."
    ((B "/q/..d" gets refuses 8 0)
    ∷ (O "/q/a.ts" gets gives 65535 65535 "")
    ∷ (O "/q/k.ts" gets gives 65535 65535 "")
    ∷ (O "/p/node_modules/.cjs" gets gives 65535 65535 "")
    ∷ (O "/p/a/b/src.js" gets gives 65535 65535 "")
    ∷ (C "/q/..d" "a\\b" gets refuses 7 0)
    ∷ (C "/q/..d" "x?y#z" gets refuses 8 0)
    ∷ (T "/q/..d" "/p/src" "..a" gets refuses 8 0)
    ∷ (T "/q/..d" "/p/gen" "ab" gets refuses 8 0)
    ∷ [])
unfolding tell
book_000016 = refl

-- BEGIN "/p/d", ROOTDIRS, flag 4 0, flag 5 0, flag 7 0, flag 8 1, END, BEGIN "/q/base.json", INCLUDE, include "./../?.ts/*.vue/src", PATHS, key "a*/",
-- target "", target "", target "${configDir", key "x", key "a/b", target ".", target "a//b/../*", reference "../p b/x", reference "../p", reference
-- "../p/tsconfig.json", baseUrl "*", flag 7 0, flag 8 1, text 2 "x y", END, BEGIN 97+512, file "//p/k.ts", INCLUDE, include "/?", include "*a?",
-- EXCLUDE, exclude "//p/*", exclude "${configDir}*", reference "../p b/x", reference "tsconfig.json", flag 0 0, flag 2 1, flag 5 0, END, BEGIN
-- "/q/tsconfig.json", INCLUDE, include "b/.", include "k.ts", include "/p/", ROOTDIRS, rootDir "", extends "../p/d", flag 8 0, text 1 "/", END, BEGIN
-- "/p b/x", baseUrl "/u/w/", flag 4 1, text 4 "${configDir}", END, bytes 11 0B 16 00
pub book_000017 :
    Answers "\u{1}\0\0\u{4}\0\u{e}\u{12}\u{4}\0\u{12}\u{5}\0\u{12}\u{7}\0\u{12}\u{8}\u{1}\u{14}\u{1}\u{4}\0\u{c}\0\u{4}\u{5}\u{10}\0\u{13}\0\n\u{b}#\0\u{3}\0\u{c}&\0\0\0\u{c}&\0\0\0\u{c}&\0\u{b}\0\u{b}1\0\u{1}\0\u{b}2\0\u{3}\0\u{c}5\0\u{1}\0\u{c}6\0\t\0\r?\0\u{8}\0\rG\0\u{4}\0\rK\0\u{12}\0\t]\0\u{1}\0\u{12}\u{7}\0\u{12}\u{8}\u{1}\u{13}\u{2}^\0\u{3}\0\u{14}\u{1}a\0\0\u{2}\u{3}q\0\u{8}\0\u{4}\u{5}y\0\u{2}\0\u{5}{\0\u{3}\0\u{6}\u{7}~\0\u{5}\0\u{7}\u{83}\0\r\0\r?\0\u{8}\0\r\u{90}\0\r\0\u{12}\0\0\u{12}\u{2}\u{1}\u{12}\u{5}\0\u{14}\u{1}\u{9d}\0\u{10}\0\u{4}\u{5}\u{ad}\0\u{3}\0\u{5}°\0\u{4}\0\u{5}´\0\u{3}\0\u{e}\u{f}&\0\0\0\u{8}·\0\u{6}\0\u{12}\u{8}\0\u{13}\u{1}½\0\u{1}\0\u{14}\u{1}¾\0\u{6}\0\tÄ\0\u{5}\0\u{12}\u{4}\u{1}\u{13}\u{4}É\0\u{c}\0\u{14}\u{11}\u{b}\u{16}\0" "/p/d/q/base.json./../?.ts/*.vue/srca*/${configDirxa/b.a//b/../*../p b/x../p../p/tsconfig.json*x y/p/tsconfig.json//p/k.ts/?*a?//p/*${configDir}*tsconfig.json/q/tsconfig.jsonb/.k.ts/p/../p/d//p b/x/u/w/${configDir}"
    ((B "/q/base.json" gets refuses 4 104)
    ∷ (B "/p/tsconfig.json" gets refuses 4 104)
    ∷ (B "/p b/x" gets refuses 4 104)
    ∷ (B "/p b/x" gets refuses 4 104)
    ∷ (B "/p b/x" gets refuses 4 104)
    ∷ (O "/q/x.ts" gets refuses 4 104)
    ∷ (O "/p/a.ts" gets refuses 4 104)
    ∷ (O "/p/a.ts" gets refuses 4 104)
    ∷ (O "/p/" gets refuses 4 104)
    ∷ (C "/p b/x" "./../src/a" gets refuses 4 104)
    ∷ (C "/p/tsconfig.json" "pkg/sub" gets refuses 4 104)
    ∷ (C "/q/base.json" "a/b" gets refuses 4 104)
    ∷ (T "/q/base.json" "/node_modules" "abc/" gets refuses 4 104)
    ∷ (T "/p/d" "/p/src" "a/b" gets refuses 4 104)
    ∷ (T "/p b/x" "/p/b" "a\u{1}" gets refuses 4 104)
    ∷ [])
unfolding tell
book_000017 = refl

-- BEGIN "/p/src/a/tsconfig.json", ROOTDIRS, flag 8 1, rootDir "//p/src", PATHS, text 4 "react", FILES, file "/p/./k.ts", key "**", target
-- "${configDir}", rootDir "/p", key "a*b*", target ".b./.*a.", rootDir "/p/gen", rootDir "gen", END, BEGIN "/a/B.json", INCLUDE, PATHS, key "abc",
-- target "../../*", extends "./b/../..//p/tsconfig", extends "./b/../..//p/tsconfig", extends "../p", extends "../p", reference "/p/src/a", reference
-- "..//p", reference "../p/tsconfig", baseUrl "", flag 8 0, flag 10 1, text 1 "/*/b*.*", text 6 "react", END, BEGIN "/p/tsconfig.json", INCLUDE, include
-- "/p/**/*", include "nothing", PATHS, key "a*c", baseUrl "/u/w", flag 0 0, flag 1 1, flag 8 0, text 4 "esnext", END
pub book_000018 :
    Answers "\u{1}\0\0\u{16}\0\u{e}\u{12}\u{8}\u{1}\u{f}\u{16}\0\u{7}\0\n\u{13}\u{4}\u{1d}\0\u{5}\0\u{2}\u{3}\"\0\t\0\u{b}+\0\u{2}\0\u{c}-\0\u{c}\0\u{f}9\0\u{2}\0\u{b};\0\u{4}\0\u{c}?\0\u{8}\0\u{f}G\0\u{6}\0\u{f}M\0\u{3}\0\u{14}\u{1}P\0\t\0\u{4}\n\u{b}Y\0\u{3}\0\u{c}\\\0\u{7}\0\u{8}c\0\u{15}\0\u{8}c\0\u{15}\0\u{8}x\0\u{4}\0\u{8}x\0\u{4}\0\r|\0\u{8}\0\r\u{84}\0\u{5}\0\r\u{89}\0\r\0\t\u{96}\0\0\0\u{12}\u{8}\0\u{12}\n\u{1}\u{13}\u{1}\u{96}\0\u{7}\0\u{13}\u{6}\u{1d}\0\u{5}\0\u{14}\u{1}\u{9d}\0\u{10}\0\u{4}\u{5}\u{ad}\0\u{7}\0\u{5}´\0\u{7}\0\n\u{b}»\0\u{3}\0\t¾\0\u{4}\0\u{12}\0\0\u{12}\u{1}\u{1}\u{12}\u{8}\0\u{13}\u{4}Â\0\u{6}\0\u{14}" "/p/src/a/tsconfig.json//p/srcreact/p/./k.ts**${configDir}/pa*b*.b./.*a./p/gengen/a/B.jsonabc../../*./b/../..//p/tsconfig../p/p/src/a..//p../p/tsconfig/*/b*.*/p/tsconfig.json/p/**/*nothinga*c/u/wesnext"
    ((B "/p/src/a/tsconfig.json" gets gives 0 0 "files=/p/./k.ts\nbase=/p/src/a\nkey=**\ntarget=/p/src/a/\nkey=a*b*\ntarget=/p/src/a/.b./.*a.\nrootDir=//p/src\nrootDir=/p\nrootDir=/p/gen\nrootDir=/p/src/a/gen\nflag 8=1\ntext 4=react\n")
    ∷ (B "/p/src/a/tsconfig.json" gets gives 0 0 "files=/p/./k.ts\nbase=/p/src/a\nkey=**\ntarget=/p/src/a/\nkey=a*b*\ntarget=/p/src/a/.b./.*a.\nrootDir=//p/src\nrootDir=/p\nrootDir=/p/gen\nrootDir=/p/src/a/gen\nflag 8=1\ntext 4=react\n")
    ∷ (B "/none" gets refuses 8 65535)
    ∷ (B "/a/B" gets gives 1 4 "include\nbaseUrl=\nbase=\nkey=abc\ntarget=*\nreference=/p/src/a\nreference=..//p\nreference=../p/tsconfig\nflag 0=0\nflag 1=1\nflag 8=0\nflag 10=1\ntext 1=/*/b*.*\ntext 4=esnext\ntext 6=react\n")
    ∷ (O "/p/k.ts" gets gives 2 2 "")
    ∷ (O "/p/a/b/k.*" gets gives 65535 65535 "")
    ∷ (O "/p/k.ts" gets gives 2 2 "")
    ∷ (O "/p/src/a/ab.ts" gets gives 2 2 "")
    ∷ (O "/p/x.ts" gets gives 2 2 "")
    ∷ (O "/p/a.jsx" gets gives 65535 65535 "")
    ∷ (O "/p/b/a.b.TS" gets gives 65535 65535 "")
    ∷ (O "/p/k.ts" gets gives 2 2 "")
    ∷ (C "/a/B.json" "abb*" gets gives 1 0 "\u{4}\0abb*")
    ∷ (C "/p/a.ts/" "abc" gets refuses 7 0)
    ∷ (C "/p/src/a" "**" gets gives 1 0 "\t\0/p/src/a/")
    ∷ (C "/p" "axb*" gets gives 1 0 "\t\0/u/w/axb*")
    ∷ (C "/p/tsconfig.json" "*" gets gives 1 0 "\u{6}\0/u/w/*")
    ∷ (T "/p/src/a" "/p/node_modules/m" "a" gets gives 0 0 "")
    ∷ (T "/a/B.json" "/p/src" "bc*" gets gives 1 0 "\u{3}\0bc*")
    ∷ (T "/p/tsconfig.json" "/p/src/a/b" "axc" gets gives 1 0 "\u{8}\0/u/w/axc")
    ∷ [])
unfolding tell
book_000018 = refl

-- BEGIN "/a/tsconfig.json", FILES, file "a.ts/.", INCLUDE, include "*", include "**/", PATHS, PATHS, extends "/q/tsconfig", extends "/q/tsconfig",
-- extends "../q/tsconfig.json", reference "../q//", declarationDir "", flag 10 1, END, BEGIN "/p/src/d.json", flag 7 1, extends "/q/tsconfig.json", flag
-- 2 0, flag 8 1, flag 1 1, flag 0 0, baseUrl "src", extends "./b/../../../q", PATHS, flag 5 1, key "x", target "$", target "*/..", key "@f*", target
-- "//a/*", END, BEGIN "/q/tsconfig.json", FILES, file "k.ts", file "k.ts", INCLUDE, include "src/**/*", ROOTDIRS, rootDir ".a*b*.", rootDir "/q",
-- rootDir "/p/src", flag 8 1, flag 10 1, END
pub book_000019 :
    Answers "\u{1}\0\0\u{10}\0\u{2}\u{3}\u{10}\0\u{6}\0\u{4}\u{5}\u{16}\0\u{1}\0\u{5}\u{17}\0\u{3}\0\n\n\u{8}\u{1a}\0\u{b}\0\u{8}\u{1a}\0\u{b}\0\u{8}%\0\u{12}\0\r7\0\u{6}\0\u{11}=\0\0\0\u{12}\n\u{1}\u{14}\u{1}=\0\r\0\u{12}\u{7}\u{1}\u{8}J\0\u{10}\0\u{12}\u{2}\0\u{12}\u{8}\u{1}\u{12}\u{1}\u{1}\u{12}\0\0\tZ\0\u{3}\0\u{8}]\0\u{e}\0\n\u{12}\u{5}\u{1}\u{b}k\0\u{1}\0\u{c}l\0\u{1}\0\u{c}m\0\u{4}\0\u{b}q\0\u{3}\0\u{c}t\0\u{5}\0\u{14}\u{1}J\0\u{10}\0\u{2}\u{3}y\0\u{4}\0\u{3}y\0\u{4}\0\u{4}\u{5}}\0\u{8}\0\u{e}\u{f}\u{85}\0\u{6}\0\u{f}\u{8b}\0\u{2}\0\u{f}\u{8d}\0\u{6}\0\u{12}\u{8}\u{1}\u{12}\n\u{1}\u{14}" "/a/tsconfig.jsona.ts/.***//q/tsconfig../q/tsconfig.json../q///p/src/d.json/q/tsconfig.jsonsrc./b/../../../qx$*/..@f*//a/*k.tssrc/**/*.a*b*./q/p/src"
    ((B "/a/tsconfig.json" gets refuses 3 23)
    ∷ (B "/p/src/d.json" gets refuses 3 23)
    ∷ (B "/p/src/d" gets refuses 3 23)
    ∷ (O "/q/k.ts" gets refuses 3 23)
    ∷ (O "/a/k.ts/a.ts" gets refuses 3 23)
    ∷ (O "/p/a/b/index.mjs" gets refuses 3 23)
    ∷ (O "/a/k.ts" gets refuses 3 23)
    ∷ (O "/q/k.vue" gets refuses 3 23)
    ∷ (C "/p/src/d.json" "abc" gets refuses 3 23)
    ∷ (C "/a/tsconfig.json" "x?y#z" gets refuses 3 23)
    ∷ (C "/q" "x" gets refuses 3 23)
    ∷ (C "/p/src/d.json" "@fb" gets refuses 3 23)
    ∷ (C "/q" "x" gets refuses 3 23)
    ∷ (C "/p/src/d" "a*" gets refuses 3 23)
    ∷ (T "/a/tsconfig.json" "/p/b" "\"q" gets refuses 3 23)
    ∷ (T "/a/tsconfig.json" "/p/src/a/b" "x" gets refuses 3 23)
    ∷ (T "/a" "/" "@f/a/x" gets refuses 3 23)
    ∷ (T "/p/../a.ts" "/p/src/a" "${configDir}/x" gets refuses 3 23)
    ∷ [])
unfolding tell
book_000019 = refl

-- BEGIN "/tsconfig.json", flag 4 1, extends "#pkg", flag 5 1, reference "./q/.json", reference "/q/.json", reference "q/.json", extends "./p/src/a.ts",
-- baseUrl "a//b/", END, BEGIN "/ab/tsconfig.json", ROOTDIRS, rootDir "/q", PATHS, key "k", target "*", target "/", target "/", flag 1 0, EXCLUDE, key
-- "/abs/*", target "a//b/../*", target "/abs/*", exclude "src/**/*", FILES, exclude "**/*", file "/p/src/../k.ts", END, BEGIN
-- "/p/src/a/b/tsconfig.json", ROOTDIRS, PATHS, key "a b*", key "\"*", target "**", extends "../../../../q/.json", extends "../../a.ts", extends
-- "../../a.ts", END, BEGIN "/q/.json", ROOTDIRS, rootDir "..", flag 9 1, END, BEGIN "/p/src/a.ts", PATHS, text 1 "a=b", key "@f/band", target "*/..",
-- baseUrl "x*", outDir "${configDir}/../o/", key "*/x", target "/x*/y", key "/abs/*", target "./../*", target "*/..", END
pub book_000020 :
    Answers "\u{1}\0\0\u{e}\0\u{12}\u{4}\u{1}\u{8}\u{e}\0\u{4}\0\u{12}\u{5}\u{1}\r\u{12}\0\t\0\r\u{1b}\0\u{8}\0\r#\0\u{7}\0\u{8}*\0\u{c}\0\t6\0\u{5}\0\u{14}\u{1};\0\u{11}\0\u{e}\u{f}L\0\u{2}\0\n\u{b}N\0\u{1}\0\u{c}O\0\u{1}\0\u{c}P\0\u{1}\0\u{c}P\0\u{1}\0\u{12}\u{1}\0\u{6}\u{b}Q\0\u{6}\0\u{c}W\0\t\0\u{c}Q\0\u{6}\0\u{7}`\0\u{8}\0\u{2}\u{7}h\0\u{4}\0\u{3}l\0\u{e}\0\u{14}\u{1}z\0\u{18}\0\u{e}\n\u{b}\u{92}\0\u{4}\0\u{b}\u{96}\0\u{2}\0\u{c}\u{98}\0\u{2}\0\u{8}\u{9a}\0\u{13}\0\u{8}\u{ad}\0\n\0\u{8}\u{ad}\0\n\0\u{14}\u{1}\u{1b}\0\u{8}\0\u{e}\u{f}·\0\u{2}\0\u{12}\t\u{1}\u{14}\u{1}¹\0\u{b}\0\n\u{13}\u{1}Ä\0\u{3}\0\u{b}Ç\0\u{7}\0\u{c}Î\0\u{4}\0\tÒ\0\u{2}\0\u{10}Ô\0\u{12}\0\u{b}æ\0\u{3}\0\u{c}é\0\u{5}\0\u{b}Q\0\u{6}\0\u{c}î\0\u{6}\0\u{c}Î\0\u{4}\0\u{14}" "/tsconfig.json#pkg./q/.json/q/.jsonq/.json./p/src/a.tsa//b//ab/tsconfig.json/qk*//abs/*a//b/../*src/**/***/*/p/src/../k.ts/p/src/a/b/tsconfig.jsona b*\"***../../../../q/.json../../a.ts../p/src/a.tsa=b@f/band*/..x*${configDir}/../o/*/x/x*/y./../*"
    ((B "/tsconfig.json" gets refuses 12 0)
    ∷ (B "/ab/tsconfig.json" gets gives 1 0 "files=/p/src/../k.ts\nexclude=/ab/src/**/*\nexclude=/ab/**/*\nbase=/ab\nkey=k\ntarget=/ab/*\ntarget=/\ntarget=/\nkey=/abs/*\ntarget=/ab/a/*\ntarget=/abs/*\nrootDir=/q\nflag 1=0\n")
    ∷ (B "/p/src/a/b/tsconfig.json" gets gives 2 3 "baseUrl=/p/src/a/b/x*\nbase=/p/src/x*\nkey=a b*\nkey=\"*\ntarget=/p/src/x*/**\nrootDir\noutDir=/p/src/a/b/../o/\nflag 9=1\ntext 1=a=b\n")
    ∷ (B "/q/.json" gets gives 3 0 "base=/q\nrootDir=/\nflag 9=1\n")
    ∷ (B "/q/.json" gets gives 3 0 "base=/q\nrootDir=/\nflag 9=1\n")
    ∷ (O "/p/src/a/b/x.ts" gets gives 2 2 "")
    ∷ (O "/a.ts" gets refuses 12 0)
    ∷ (O "/ab/a.ts" gets refuses 12 0)
    ∷ (O "/p/src/a/b/a.ts" gets gives 2 2 "")
    ∷ (C "/p/src/a/b/tsconfig.json" "./../../gen/x" gets gives 1 0 "\u{8}\0/p/gen/x")
    ∷ (C "/p/src/a/b" "/abs/" gets gives 1 0 "\u{5}\0/abs/")
    ∷ (C "/p/src/a.ts" "../" gets gives 1 0 "\u{6}\0/p/src")
    ∷ (C "/tsconfig.json" "" gets refuses 12 0)
    ∷ (C "/" "a" gets refuses 12 0)
    ∷ (T "/p/src/a.ts" "/node_modules" "/abs/b" gets gives 0 0 "")
    ∷ (T "/p/src/a.ts" "/p/src/a/b" "@f/band" gets gives 2 0 "\t\0/p/src/x*\u{11}\0/p/src/x*/@f/band")
    ∷ [])
unfolding tell
book_000020 = refl

-- BEGIN "/p/d", EXCLUDE, exclude "/", exclude "..//src", exclude "/p/", extends "..//p b/base", extends "..//ab/..d", extends "../p b/base.json", text 4
-- "/", END, BEGIN "/p b/base.json", flag 10 1, flag 5 1, INCLUDE, flag 4 1, extends "..//q/tsconfig", flag 8 0, extends "./b/../../q/tsconfig", extends
-- "../q/tsconfig", extends "/q/tsconfig", END, BEGIN "/ab/..d", INCLUDE, include "src/*", include "*?", PATHS, key "a b*", target "./*", key "@f", key
-- "", target "/abs/*", extends "../q/tsconfig/x/..", extends "../q/tsconfig", baseUrl "a/${configDir}", declarationDir "../../../..", flag 3 0, flag 4
-- 1, END, BEGIN "/p/tsconfig.json", ROOTDIRS, flag 0 0, text 3 "it's", END, BEGIN "/q/tsconfig", ROOTDIRS, INCLUDE, PATHS, flag 2 0, key "@*", key "@f",
-- target "*a*", target "${configDir}//../*", rootDir "/q", rootDir "/p/./src", rootDir "gen", include "*.TS", include "a/..", END
pub book_000021 :
    Answers "\u{1}\0\0\u{4}\0\u{6}\u{7}\u{4}\0\u{1}\0\u{7}\u{5}\0\u{7}\0\u{7}\u{c}\0\u{3}\0\u{8}\u{f}\0\u{c}\0\u{8}\u{1b}\0\n\0\u{8}%\0\u{10}\0\u{13}\u{4}\u{4}\0\u{1}\0\u{14}\u{1}5\0\u{e}\0\u{12}\n\u{1}\u{12}\u{5}\u{1}\u{4}\u{12}\u{4}\u{1}\u{8}C\0\u{e}\0\u{12}\u{8}\0\u{8}Q\0\u{14}\0\u{8}e\0\r\0\u{8}r\0\u{b}\0\u{14}\u{1}}\0\u{7}\0\u{4}\u{5}\u{84}\0\u{5}\0\u{5}\u{89}\0\u{2}\0\n\u{b}\u{8b}\0\u{4}\0\u{c}\u{8f}\0\u{3}\0\u{b}\u{92}\0\u{2}\0\u{b}\u{94}\0\0\0\u{c}\u{94}\0\u{6}\0\u{8}\u{9a}\0\u{12}\0\u{8}e\0\r\0\t¬\0\u{e}\0\u{11}º\0\u{b}\0\u{12}\u{3}\0\u{12}\u{4}\u{1}\u{14}\u{1}Å\0\u{10}\0\u{e}\u{12}\0\0\u{13}\u{3}Õ\0\u{4}\0\u{14}\u{1}r\0\u{b}\0\u{e}\u{4}\n\u{12}\u{2}\0\u{b}Ù\0\u{2}\0\u{b}\u{92}\0\u{2}\0\u{c}Û\0\u{3}\0\u{c}Þ\0\u{12}\0\u{f}ð\0\u{2}\0\u{f}ò\0\u{8}\0\u{f}ú\0\u{3}\0\u{5}ý\0\u{4}\0\u{5}\u{1}\u{1}\u{4}\0\u{14}" "/p/d/..//src/p/..//p b/base..//ab/..d../p b/base.json/p b/base.json..//q/tsconfig./b/../../q/tsconfig../q/tsconfig/q/tsconfig/ab/..dsrc/**?a b*./*@f/abs/*../q/tsconfig/x/..a/${configDir}../../../../p/tsconfig.jsonit's@**a*${configDir}//../*/q/p/./srcgen*.TSa/.."
    ((B "/p/tsconfig.json" gets gives 3 0 "base=/p\nrootDir\nflag 0=0\ntext 3=it's\n")
    ∷ (B "/ab/..d" gets gives 2 2 "include=/ab/src/*\ninclude=/ab/*?\nbaseUrl=/ab/a/${configDir}\nbase=/ab/a/${configDir}\nkey=a b*\ntarget=/ab/a/${configDir}/*\nkey=@f\nkey=\ntarget=/abs/*\nrootDir=/q\nrootDir=/p/./src\nrootDir=/q/gen\ndeclarationDir=/\nflag 2=0\nflag 3=0\nflag 4=1\n")
    ∷ (B "/p b/base.json" gets gives 1 4 "include\nbase=/q\nkey=@*\nkey=@f\ntarget=/q/*a*\ntarget=/p b/../*\nrootDir=/q\nrootDir=/p/./src\nrootDir=/q/gen\nflag 2=0\nflag 4=1\nflag 5=1\nflag 8=0\nflag 10=1\n")
    ∷ (B "/p/tsconfig.json" gets gives 3 0 "base=/p\nrootDir\nflag 0=0\ntext 3=it's\n")
    ∷ (B "/p b/base" gets gives 1 4 "include\nbase=/q\nkey=@*\nkey=@f\ntarget=/q/*a*\ntarget=/p b/../*\nrootDir=/q\nrootDir=/p/./src\nrootDir=/q/gen\nflag 2=0\nflag 4=1\nflag 5=1\nflag 8=0\nflag 10=1\n")
    ∷ (O "/p/src/a/a.vue" gets gives 65535 65535 "")
    ∷ (O "/p/a.ts" gets gives 3 3 "")
    ∷ (O "/p/src/x..ts" gets gives 3 3 "")
    ∷ (O "/ab/a." gets gives 65535 65535 "")
    ∷ (O "/p/k.ts" gets gives 3 3 "")
    ∷ (O "/p/k.ts" gets gives 3 3 "")
    ∷ (C "/p b/base" "xxxxxxxxxxxxxxxxxxxxxxxxxxxxxxxxxxxxxxxxxxxxxxxxxxxxxxxxxxxxxxxxxxxxxxxxxxxxxxxxxxxxxxxxxxxxxxxxxxxxxxxxxxxxxxxxxxxxxxxxxxxxxxxxxxxxxxxxxxxxxxxxxxxxxxxxxxxxxxxxxxxxxxxxxxxxxxxxxxxxxxxxxxxxxxxxxxxxxxxxxxxxxxxxxxxxxxxxxxxxxxxxxxxxxxxxxxxxxxxxxxxxxxxxxxxxxxxxxxxxxxxxxxxxxxxxxxxxxxxxxxxxxxxxxxxxxxxxxxxxxxxxxxxxxxxxxxxxxxxxxxxxxxxxxxxxxxxxxxxxxxxxxxxxxxxxxxxxxxxxxxxxxxxxxxxxxxxxxxxxxxxxxxxxxxxxxxxxxxxxxxxxxxxxxxxxxxxxxxxxxxxxxxxxxxxxxxxxxxxxxxxxxxxxxxxxxxxxxxxxxxxxxxxxxxxxxxxxxxxxxxxxxxxxxxxxxxxxxxxxxxxxxxxxxxxxx" gets refuses 7 0)
    ∷ (C "/ab/..d" "*ba" gets gives 1 0 "\u{16}\0/ab/a/${configDir}/*ba")
    ∷ (C "/ab/..d" "@f" gets gives 1 0 "\u{15}\0/ab/a/${configDir}/@f")
    ∷ (C "/p/d" "@f" gets gives 2 0 "\u{16}\0/ab/a/${configDir}/*a*\u{7}\0/p/../*")
    ∷ (C "/q/tsconfig" "" gets gives 0 0 "")
    ∷ (T "/q/tsconfig" "/p/src" "axb*" gets gives 0 0 "")
    ∷ (T "/p/tsconfig" "/p/node_modules/m" "a bx" gets gives 0 0 "")
    ∷ [])
unfolding tell
book_000021 = refl

-- BEGIN "/q/tsconfig.json", INCLUDE, include "*/a", include "${configDir}/", include "k.ts/*.*/b/?.ts", EXCLUDE, exclude "/..", extends "./base.json",
-- extends "..//p/.json", reference "../p/.json", declarationDir "..", END, BEGIN "/p/.json", outDir "/o", reference "../q/base", baseUrl
-- "//k.ts/a.b/node_modules", PATHS, key "a*", key "", target "..", target "", key "./*", target "/abs/*", extends "/q/base.json", key "*/x", target
-- "/x*/y", key "a*c", target "src/*", END, BEGIN "/a/tsconfig.json", extends "./b/../../q/tsconfig.json", baseUrl "a//b/", flag 0 1, END, BEGIN
-- "/q/base.json", ROOTDIRS, rootDir "/p/gen", rootDir "/q", flag 2 1, END, BEGIN "/p/src/a/..d", FILES, file "..", file "", extends "./", extends
-- "../../../a/tsconfig", flag 0 1, flag 2 1, flag 8 1, flag 9 0, END, BEGIN "/p/node_modules/m/r.json", FILES, file "../x.js", file "a.js", INCLUDE,
-- include "**/*.ts", extends "../../../q", flag 7 0, flag 8 1, END, BEGIN "/q/d", PATHS, reference "../a/tsconfig.json", baseUrl "../src",
-- declarationDir "", key "", target "/u/../v", END
pub book_000022 :
    Answers "\u{1}\0\0\u{10}\0\u{4}\u{5}\u{10}\0\u{3}\0\u{5}\u{13}\0\r\0\u{5} \0\u{f}\0\u{6}\u{7}/\0\u{3}\0\u{8}2\0\u{b}\0\u{8}=\0\u{b}\0\rH\0\n\0\u{11}R\0\u{2}\0\u{14}\u{1}T\0\u{8}\0\u{10}\\\0\u{2}\0\r^\0\t\0\tg\0\u{17}\0\n\u{b}~\0\u{2}\0\u{b}\u{80}\0\0\0\u{c}R\0\u{2}\0\u{c}\u{80}\0\0\0\u{b}\u{80}\0\u{3}\0\u{c}\u{83}\0\u{6}\0\u{8}\u{89}\0\u{c}\0\u{b}\u{95}\0\u{3}\0\u{c}\u{98}\0\u{5}\0\u{b}\u{9d}\0\u{3}\0\u{c}\u{a0}\0\u{5}\0\u{14}\u{1}¥\0\u{10}\0\u{8}µ\0\u{19}\0\tÎ\0\u{5}\0\u{12}\0\u{1}\u{14}\u{1}\u{89}\0\u{c}\0\u{e}\u{f}Ó\0\u{6}\0\u{f}Ù\0\u{2}\0\u{12}\u{2}\u{1}\u{14}\u{1}Û\0\u{c}\0\u{2}\u{3}R\0\u{2}\0\u{3}\u{80}\0\0\0\u{8}ç\0\u{2}\0\u{8}é\0\u{13}\0\u{12}\0\u{1}\u{12}\u{2}\u{1}\u{12}\u{8}\u{1}\u{12}\t\0\u{14}\u{1}ü\0\u{18}\0\u{2}\u{3}\u{14}\u{1}\u{7}\0\u{3}\u{1b}\u{1}\u{4}\0\u{4}\u{5}\u{1f}\u{1}\u{7}\0\u{8}&\u{1}\n\0\u{12}\u{7}\0\u{12}\u{8}\u{1}\u{14}\u{1}0\u{1}\u{4}\0\n\r4\u{1}\u{12}\0\tF\u{1}\u{6}\0\u{11}\u{80}\0\0\0\u{b}\u{80}\0\0\0\u{c}L\u{1}\u{7}\0\u{14}" "/q/tsconfig.json*/a${configDir}/k.ts/*.*/b/?.ts/.../base.json..//p/.json../p/.json../p/.json/o../q/base//k.ts/a.b/node_modulesa*./*/abs/*/q/base.json*/x/x*/ya*csrc/*/a/tsconfig.json./b/../../q/tsconfig.jsona//b//p/gen/q/p/src/a/..d./../../../a/tsconfig/p/node_modules/m/r.json../x.jsa.js**/*.ts../../../q/q/d../a/tsconfig.json../src/u/../v"
    ((B "/p/src/a/..d" gets refuses 8 4)
    ∷ (B "/a/tsconfig.json" gets gives 2 4 "include=/a/*/a\ninclude=/a/\ninclude=/a/k.ts/*.*/b/?.ts\nexclude=/..\nbaseUrl=/a/a/b\nbase=/a/a/b\nkey=a*\nkey=\ntarget=/a/a\ntarget=\nkey=./*\ntarget=/abs/*\nkey=*/x\ntarget=/x*/y\nkey=a*c\ntarget=/a/a/b/src/*\nrootDir=/p/gen\nrootDir=/q\noutDir=/o\ndeclarationDir=/\nflag 0=1\nflag 2=1\n")
    ∷ (B "/p/.json" gets gives 1 1 "baseUrl=//k.ts/a.b/node_modules\nbase=//k.ts/a.b/node_modules\nkey=a*\nkey=\ntarget=//k.ts/a.b\ntarget=\nkey=./*\ntarget=/abs/*\nkey=*/x\ntarget=/x*/y\nkey=a*c\ntarget=//k.ts/a.b/node_modules/src/*\nreference=../q/base\nrootDir=/p/gen\nrootDir=/q\noutDir=/o\nflag 2=1\n")
    ∷ (B "/q/base.json" gets gives 3 0 "base=/q\nrootDir=/p/gen\nrootDir=/q\nflag 2=1\n")
    ∷ (B "/a" gets gives 2 4 "include=/a/*/a\ninclude=/a/\ninclude=/a/k.ts/*.*/b/?.ts\nexclude=/..\nbaseUrl=/a/a/b\nbase=/a/a/b\nkey=a*\nkey=\ntarget=/a/a\ntarget=\nkey=./*\ntarget=/abs/*\nkey=*/x\ntarget=/x*/y\nkey=a*c\ntarget=/a/a/b/src/*\nrootDir=/p/gen\nrootDir=/q\noutDir=/o\ndeclarationDir=/\nflag 0=1\nflag 2=1\n")
    ∷ (O "/a/a.ts" gets gives 2 2 "")
    ∷ (O "/q/k.d.ts" gets gives 0 0 "")
    ∷ (O "/k.json" gets gives 65535 65535 "")
    ∷ (O "/x.ts" gets gives 65535 65535 "")
    ∷ (O "/p/src/b/index.ts" gets gives 65535 65535 "")
    ∷ (O "/a/src/a/..ts" gets gives 2 2 "")
    ∷ (O "/k.ts" gets gives 65535 65535 "")
    ∷ (O "/a/src/a/..vue" gets gives 65535 65535 "")
    ∷ (C "/p/node_modules/m/r.json" "k" gets gives 1 0 "\u{19}\0//k.ts/a.b/node_modules/k")
    ∷ (C "/p/.json" "" gets gives 2 0 "\n\0//k.ts/a.b\0\0")
    ∷ (T "/q/d" "/p/src/a" "a/.." gets gives 1 0 "\u{4}\0/src")
    ∷ (T "/p/é" "/p" "abc" gets refuses 7 0)
    ∷ [])
unfolding tell
book_000022 = refl

-- BEGIN "/tsconfig.json", EXCLUDE, exclude "src/", extends ".//ab", baseUrl "//u//w", flag 2 1, flag 4 1, flag 6 0, flag 8 1, text 4 "\"", END, BEGIN
-- "/p b/d", outDir "dist", flag 2 0, flag 3 0, flag 8 0, flag 10 0, text 4 "/", END, BEGIN "/p/src/A.json", FILES, file "../a.ts", INCLUDE, include
-- "x.*", include "??", include "${configDir}**", extends "../../ab", outDir "/o", flag 0 1, flag 2 1, flag 4 0, flag 5 1, flag 7 1, flag 9 0, END, BEGIN
-- "/p/r.json", EXCLUDE, exclude "*.ts", ROOTDIRS, rootDir "src/a", reference "../ab/tsconfig", text 6 "./node_modules/w/..", END, BEGIN
-- "/ab/tsconfig.json", INCLUDE, include "src/?", include "**/*.js", PATHS, key "a", target "a//b/../*", target "", key "*", target "filt/*", key "@f",
-- target "./x", target "${configDir}//../*", target "a/../../*", key "ab*", target "${configDir", target "t/*/*", target "./../*", key "abc", flag 2 0,
-- END
pub book_000023 :
    Answers "\u{1}\0\0\u{e}\0\u{6}\u{7}\u{e}\0\u{4}\0\u{8}\u{12}\0\u{5}\0\t\u{17}\0\u{6}\0\u{12}\u{2}\u{1}\u{12}\u{4}\u{1}\u{12}\u{6}\0\u{12}\u{8}\u{1}\u{13}\u{4}\u{1d}\0\u{1}\0\u{14}\u{1}\u{1e}\0\u{6}\0\u{10}$\0\u{4}\0\u{12}\u{2}\0\u{12}\u{3}\0\u{12}\u{8}\0\u{12}\n\0\u{13}\u{4}(\0\u{1}\0\u{14}\u{1})\0\r\0\u{2}\u{3}6\0\u{7}\0\u{4}\u{5}=\0\u{3}\0\u{5}@\0\u{2}\0\u{5}B\0\u{e}\0\u{8}P\0\u{8}\0\u{10}X\0\u{2}\0\u{12}\0\u{1}\u{12}\u{2}\u{1}\u{12}\u{4}\0\u{12}\u{5}\u{1}\u{12}\u{7}\u{1}\u{12}\t\0\u{14}\u{1}Z\0\t\0\u{6}\u{7}c\0\u{4}\0\u{e}\u{f}g\0\u{5}\0\rl\0\u{e}\0\u{13}\u{6}z\0\u{13}\0\u{14}\u{1}\u{8d}\0\u{11}\0\u{4}\u{5}\u{9e}\0\u{5}\0\u{5}£\0\u{7}\0\n\u{b}ª\0\u{1}\0\u{c}«\0\t\0\u{c}´\0\0\0\u{b}´\0\u{1}\0\u{c}µ\0\u{6}\0\u{b}»\0\u{2}\0\u{c}½\0\u{3}\0\u{c}À\0\u{12}\0\u{c}Ò\0\t\0\u{b}Û\0\u{3}\0\u{c}Þ\0\u{b}\0\u{c}é\0\u{5}\0\u{c}î\0\u{6}\0\u{b}ô\0\u{3}\0\u{12}\u{2}\0\u{14}" "/tsconfig.jsonsrc/.//ab//u//w\"/p b/ddist//p/src/A.json../a.tsx.*??${configDir}**../../ab/o/p/r.json*.tssrc/a../ab/tsconfig./node_modules/w/../ab/tsconfig.jsonsrc/?**/*.jsaa//b/../**filt/*@f./x${configDir}//../*a/../../*ab*${configDirt/*/*./../*abc"
    ((B "/tsconfig.json" gets gives 0 1 "include=/src/?\ninclude=/**/*.js\nexclude=/src\nbaseUrl=//u//w\nbase=//u//w\nkey=a\ntarget=//u//w/a/*\ntarget=\nkey=*\ntarget=//u//w/filt/*\nkey=@f\ntarget=//u//w/x\ntarget=/../*\ntarget=//u/*\nkey=ab*\ntarget=//u//w/${configDir\ntarget=//u//w/t/*/*\ntarget=//u/*\nkey=abc\nflag 2=1\nflag 4=1\nflag 6=0\nflag 8=1\ntext 4=\"\n")
    ∷ (B "/p b/d" gets gives 1 0 "base=/p b\noutDir=/p b/dist\nflag 2=0\nflag 3=0\nflag 8=0\nflag 10=0\ntext 4=/\n")
    ∷ (B "/p/src/A.json" gets gives 2 1 "files=/p/a.ts\ninclude=/p/src/x.*\ninclude=/p/src/??\ninclude=/p/src/**\nbase=/ab\nkey=a\ntarget=/ab/a/*\ntarget=\nkey=*\ntarget=/ab/filt/*\nkey=@f\ntarget=/ab/x\ntarget=/p/src/../*\ntarget=/*\nkey=ab*\ntarget=/ab/${configDir\ntarget=/ab/t/*/*\ntarget=/*\nkey=abc\noutDir=/o\nflag 0=1\nflag 2=1\nflag 4=0\nflag 5=1\nflag 7=1\nflag 9=0\n")
    ∷ (O "/a/src/x.y.js" gets gives 0 0 "")
    ∷ (O "/ab/k.ts" gets gives 65535 65535 "")
    ∷ (O "/ab/src/a/ab.vue" gets gives 65535 65535 "")
    ∷ (C "/tsconfig" "c" gets gives 1 0 "\r\0//u//w/filt/c")
    ∷ (C "/ab/tsconfig" "..a" gets gives 0 0 "")
    ∷ (C "/ab" "a" gets gives 2 0 "\u{7}\0/ab/a/*\0\0")
    ∷ (C "/p b/d" "ab../z" gets gives 0 0 "")
    ∷ (C "/p b/d" "a" gets gives 0 0 "")
    ∷ (T "/ab" "/p/src/a/b" "**" gets gives 1 0 "\u{b}\0/ab/filt/**")
    ∷ (T "/p/src/A.json" "/p/gen" "../../.." gets gives 0 0 "")
    ∷ [])
unfolding tell
book_000023 = refl

-- BEGIN "/p/b/tsconfig.json", ROOTDIRS, rootDir "/", rootDir "gen", outDir "${configDir}/o", text 1 "/", END, BEGIN "/p/src/.json", INCLUDE, include
-- "**/*.*", ROOTDIRS, rootDir "/", rootDir "", PATHS, key "/abs/*", target "src/", extends "./.json", extends "./.json", flag 2 1, flag 8 1, text 4 "",
-- END, BEGIN "/q/tsconfig.json", FILES, file "/p/./k.ts", file "a.ts/.", INCLUDE, include "*/a", flag 8 0, text 2 "\"", END, BEGIN "/p/src/a/base.json",
-- INCLUDE, include "nothing", include "${configDir}*", include "./src", declarationDir "./dist/", END, BEGIN "/p/src/a/b/tsconfig.json", INCLUDE,
-- include "./src", include "src/*.vue", EXCLUDE, exclude "**/node_modules/**", exclude "./**/**//**", exclude "/**/*", outDir "", text 1 "", END, BEGIN
-- "/ab/tsconfig.json", FILES, file "./src/a.ts", INCLUDE, include "b/", include "**/*.vue", include "src/**/", PATHS, key "k*", target "src/*", target
-- "t/*/*", target ".", declarationDir "../../../..", flag 7 1, flag 9 1, text 0 "react", END
pub book_000024 :
    Answers "\u{1}\0\0\u{12}\0\u{e}\u{f}\u{12}\0\u{1}\0\u{f}\u{13}\0\u{3}\0\u{10}\u{16}\0\u{e}\0\u{13}\u{1}$\0\u{1}\0\u{14}\u{1}%\0\u{c}\0\u{4}\u{5}1\0\u{6}\0\u{e}\u{f}7\0\u{1}\0\u{f}8\0\0\0\n\u{b}8\0\u{6}\0\u{c}>\0\u{4}\0\u{8}B\0\u{7}\0\u{8}I\0\u{7}\0\u{12}\u{2}\u{1}\u{12}\u{8}\u{1}\u{13}\u{4}P\0\0\0\u{14}\u{1}P\0\u{10}\0\u{2}\u{3}`\0\t\0\u{3}i\0\u{6}\0\u{4}\u{5}o\0\u{3}\0\u{12}\u{8}\0\u{13}\u{2}r\0\u{1}\0\u{14}\u{1}s\0\u{12}\0\u{4}\u{5}\u{85}\0\u{7}\0\u{5}\u{8c}\0\r\0\u{5}\u{99}\0\u{5}\0\u{11}\u{9e}\0\u{7}\0\u{14}\u{1}¥\0\u{18}\0\u{4}\u{5}½\0\u{5}\0\u{5}Â\0\t\0\u{6}\u{7}Ë\0\u{12}\0\u{7}Ý\0\u{b}\0\u{7}è\0\u{5}\0\u{10}í\0\0\0\u{13}\u{1}í\0\0\0\u{14}\u{1}í\0\u{11}\0\u{2}\u{3}þ\0\n\0\u{4}\u{5}\u{8}\u{1}\u{2}\0\u{5}\n\u{1}\u{8}\0\u{5}\u{12}\u{1}\u{7}\0\n\u{b}\u{19}\u{1}\u{2}\0\u{c}\u{1b}\u{1}\u{5}\0\u{c} \u{1}\u{5}\0\u{c}%\u{1}\u{1}\0\u{11}&\u{1}\u{b}\0\u{12}\u{7}\u{1}\u{12}\t\u{1}\u{13}\01\u{1}\u{5}\0\u{14}" "/p/b/tsconfig.json/gen${configDir}/o//p/src/.json**/*.*//abs/*src/./.json./.json/q/tsconfig.json/p/./k.tsa.ts/.*/a\"/p/src/a/base.jsonnothing${configDir}*./src./dist//p/src/a/b/tsconfig.json./srcsrc/*.vue**/node_modules/**./**/**//**/**/*/ab/tsconfig.json./src/a.tsb/**/*.vuesrc/**/k*src/*t/*/*.../../../..react"
    ((B "/p/src/a/base.json" gets gives 3 0 "include=/p/src/a/nothing\ninclude=/p/src/a/*\ninclude=/p/src/a/src\nbase=/p/src/a\ndeclarationDir=/p/src/a/dist\n")
    ∷ (B "/p/src/.json" gets refuses 9 1)
    ∷ (B "/p/b" gets gives 0 0 "base=/p/b\nrootDir=/\nrootDir=/p/b/gen\noutDir=/p/b/o\ntext 1=/\n")
    ∷ (O "/p/b/k.js" gets gives 65535 65535 "")
    ∷ (O "/p/b/a.js" gets gives 65535 65535 "")
    ∷ (O "/q/a.tsx" gets gives 65535 65535 "")
    ∷ (O "/p/node_modules/m/index.mjs" gets gives 65535 65535 "")
    ∷ (O "/p/b/node_modules/k.cts" gets gives 65535 65535 "")
    ∷ (C "/ab/tsconfig" "a*" gets gives 0 0 "")
    ∷ (C "/none" "x" gets refuses 8 65535)
    ∷ (C "/p/src/a/b" "*" gets gives 0 0 "")
    ∷ (C "/p/b/tsconfig" "kc" gets gives 0 0 "")
    ∷ (C "/q/tsconfig" "../" gets gives 0 0 "")
    ∷ (T "/q" "/" "@f/a/x" gets gives 0 0 "")
    ∷ (T "/ab" "/p/src/a/b" "axb*" gets gives 0 0 "")
    ∷ (T "/p/src/a/base.json" "/p" "\"q" gets gives 0 0 "")
    ∷ [])
unfolding tell
book_000024 = refl

-- BEGIN "/p/node_modules/m/tsconfig.json", extends "../../b/...", extends "/p/b/....json", flag 6 1, text 4 "\"", text 5 "/", END, BEGIN
-- "/p/b/....json", FILES, file "//p/k.ts", file "x.", file "", PATHS, key "#a", target "a/./*/", key "@f/*", target "x", flag 8 1, flag 10 1, text 5
-- "a=b", END, BEGIN "/p/tsconfig.json", ROOTDIRS, rootDir "/p/src//", rootDir "node_modules", PATHS, key "k*", target "${configDir}", baseUrl "///**a.",
-- declarationDir "a//b", flag 5 0, flag 8 1, END
pub book_000025 :
    Answers "\u{1}\0\0\u{1f}\0\u{8}\u{1f}\0\u{b}\0\u{8}*\0\r\0\u{12}\u{6}\u{1}\u{13}\u{4}7\0\u{1}\0\u{13}\u{5}8\0\u{1}\0\u{14}\u{1}*\0\r\0\u{2}\u{3}9\0\u{8}\0\u{3}A\0\u{2}\0\u{3}C\0\0\0\n\u{b}C\0\u{2}\0\u{c}E\0\u{6}\0\u{b}K\0\u{4}\0\u{c}O\0\u{1}\0\u{12}\u{8}\u{1}\u{12}\n\u{1}\u{13}\u{5}P\0\u{3}\0\u{14}\u{1}S\0\u{10}\0\u{e}\u{f}c\0\u{8}\0\u{f}k\0\u{c}\0\n\u{b}w\0\u{2}\0\u{c}y\0\u{c}\0\t\u{85}\0\u{7}\0\u{11}\u{8c}\0\u{4}\0\u{12}\u{5}\0\u{12}\u{8}\u{1}\u{14}" "/p/node_modules/m/tsconfig.json../../b/.../p/b/....json\"///p/k.tsx.#aa/./*/@f/*xa=b/p/tsconfig.json/p/src//node_modulesk*${configDir}///**a.a//b"
    ((B "/p/node_modules/m/tsconfig.json" gets gives 0 2 "files=//p/k.ts\nfiles=/p/node_modules/m/x.\nfiles=\nbase=/p/b\nkey=#a\ntarget=/p/b/a/*\nkey=@f/*\ntarget=/p/b/x\nflag 6=1\nflag 8=1\nflag 10=1\ntext 4=\"\ntext 5=/\n")
    ∷ (B "/p/b/....json" gets gives 1 0 "files=//p/k.ts\nfiles=/p/b/x.\nfiles=\nbase=/p/b\nkey=#a\ntarget=/p/b/a/*\nkey=@f/*\ntarget=/p/b/x\nflag 8=1\nflag 10=1\ntext 5=a=b\n")
    ∷ (B "/p/tsconfig.json" gets gives 2 0 "baseUrl=///**a.\nbase=///**a.\nkey=k*\ntarget=/p/\nrootDir=/p/src//\nrootDir=/p/node_modules\ndeclarationDir=/p/a/b\nflag 5=0\nflag 8=1\n")
    ∷ (B "/p/b/....json" gets gives 1 0 "files=//p/k.ts\nfiles=/p/b/x.\nfiles=\nbase=/p/b\nkey=#a\ntarget=/p/b/a/*\nkey=@f/*\ntarget=/p/b/x\nflag 8=1\nflag 10=1\ntext 5=a=b\n")
    ∷ (B "/p/tsconfig.json" gets gives 2 0 "baseUrl=///**a.\nbase=///**a.\nkey=k*\ntarget=/p/\nrootDir=/p/src//\nrootDir=/p/node_modules\ndeclarationDir=/p/a/b\nflag 5=0\nflag 8=1\n")
    ∷ (B "/p/\u{7f}" gets refuses 7 0)
    ∷ (O "/p/node_modules/m/b/..ts" gets gives 65535 65535 "")
    ∷ (O "/p/tsconfig.json" gets gives 65535 65535 "")
    ∷ (O "/a.ts" gets gives 65535 65535 "")
    ∷ (O "/p/a.ts" gets gives 2 2 "")
    ∷ (O "/p/node_modules/m/k.tsx" gets gives 65535 65535 "")
    ∷ (O "/q/ab.ts" gets gives 65535 65535 "")
    ∷ (C "/p/node_modules/m/tsconfig" "k*" gets gives 0 0 "")
    ∷ (C "/none" "/" gets refuses 8 65535)
    ∷ (C "/p/node_modules/m/tsconfig.json" "../x" gets gives 0 0 "")
    ∷ (C "/p/node_modules/m" "#a" gets gives 1 0 "\u{8}\0/p/b/a/*")
    ∷ (T "/p/node_modules/m/tsconfig.json" "/p/src" "./b" gets gives 0 0 "")
    ∷ (T "/p/b/....json" "/p/src/a" "@f/b" gets gives 1 0 "\u{6}\0/p/b/x")
    ∷ (T "/p/tsconfig.json" "/p" "a/.." gets gives 1 0 "\u{7}\0///**a.")
    ∷ [])
unfolding tell
book_000025 = refl

-- BEGIN "/p/b/a.ts", text 3 "${configDir}", flag 3 1, ROOTDIRS, rootDir "src", rootDir "/p/src/", text 5 "", flag 5 1, END, BEGIN "/p/src/a/b/.x.json",
-- INCLUDE, include "//p/*", text 1 "it's", END, BEGIN "/p/....json", extends "./src/tsconfig", text 1 "a=b", baseUrl "/u/w", ROOTDIRS, text 5 "esnext",
-- PATHS, key "ab*bc", target "./x", key "*/x", target "t/*/*", END, BEGIN "/p/tsconfig.json", INCLUDE, include "/p/*.vue", declarationDir
-- "${configDir}/../o/", flag 3 1, flag 8 0, text 4 "", END, BEGIN "/p/src/tsconfig.json", ROOTDIRS, rootDir "node_modules", rootDir "/p/src/.", PATHS,
-- extends "./a/b/.x.json", extends "~", reference "./a/b/.x.json", baseUrl ".", flag 4 0, END, BEGIN "/p/b/tsconfig.json", PATHS, key "x", target
-- "${configDir}*", target "filt/*", target "$", key "@f", target "./x", target "t/*/*", target "*a*", key "@f/band", extends "/p/src/a/b/.x.json",
-- baseUrl "u", flag 0 1, flag 3 1, text 1 "react", END
pub book_000026 :
    Answers "\u{1}\0\0\t\0\u{13}\u{3}\t\0\u{c}\0\u{12}\u{3}\u{1}\u{e}\u{f}\u{15}\0\u{3}\0\u{f}\u{18}\0\u{7}\0\u{13}\u{5}\u{1f}\0\0\0\u{12}\u{5}\u{1}\u{14}\u{1}\u{1f}\0\u{12}\0\u{4}\u{5}1\0\u{5}\0\u{13}\u{1}6\0\u{4}\0\u{14}\u{1}:\0\u{b}\0\u{8}E\0\u{e}\0\u{13}\u{1}S\0\u{3}\0\tV\0\u{4}\0\u{e}\u{13}\u{5}Z\0\u{6}\0\n\u{b}`\0\u{5}\0\u{c}e\0\u{3}\0\u{b}h\0\u{3}\0\u{c}k\0\u{5}\0\u{14}\u{1}p\0\u{10}\0\u{4}\u{5}\u{80}\0\u{8}\0\u{11}\u{88}\0\u{12}\0\u{12}\u{3}\u{1}\u{12}\u{8}\0\u{13}\u{4}\u{9a}\0\0\0\u{14}\u{1}\u{9a}\0\u{14}\0\u{e}\u{f}®\0\u{c}\0\u{f}º\0\u{8}\0\n\u{8}Â\0\r\0\u{8}Ï\0\u{1}\0\rÐ\0\r\0\tÝ\0\u{1}\0\u{12}\u{4}\0\u{14}\u{1}Þ\0\u{12}\0\n\u{b}ð\0\u{1}\0\u{c}ñ\0\r\0\u{c}þ\0\u{6}\0\u{c}\u{4}\u{1}\u{1}\0\u{b}\u{5}\u{1}\u{2}\0\u{c}\u{7}\u{1}\u{3}\0\u{c}\n\u{1}\u{5}\0\u{c}\u{f}\u{1}\u{3}\0\u{b}\u{12}\u{1}\u{7}\0\u{8}\u{19}\u{1}\u{12}\0\t+\u{1}\u{1}\0\u{12}\0\u{1}\u{12}\u{3}\u{1}\u{13}\u{1},\u{1}\u{5}\0\u{14}" "/p/b/a.ts${configDir}src/p/src//p/src/a/b/.x.json//p/*it's/p/....json./src/tsconfiga=b/u/wesnextab*bc./x*/xt/*/*/p/tsconfig.json/p/*.vue${configDir}/../o//p/src/tsconfig.jsonnode_modules/p/src/../a/b/.x.json~./a/b/.x.json./p/b/tsconfig.jsonx${configDir}*filt/*$@f./xt/*/**a*@f/band/p/src/a/b/.x.jsonureact"
    ((B "/p/tsconfig.json" gets gives 3 0 "include=/p/*.vue\nbase=/p\ndeclarationDir=/p/../o/\nflag 3=1\nflag 8=0\ntext 4=\n")
    ∷ (B "/p/....json" gets refuses 12 4)
    ∷ (B "/p/b/tsconfig.json" gets gives 5 1 "include=//p/*\nbaseUrl=/p/b/u\nbase=/p/b/u\nkey=x\ntarget=/p/b/*\ntarget=/p/b/u/filt/*\ntarget=/p/b/u/$\nkey=@f\ntarget=/p/b/u/x\ntarget=/p/b/u/t/*/*\ntarget=/p/b/u/*a*\nkey=@f/band\nflag 0=1\nflag 3=1\ntext 1=react\n")
    ∷ (B "/p/src/a/b/.x.json" gets gives 1 0 "include=//p/*\nbase=/p/src/a/b\ntext 1=it's\n")
    ∷ (B "/p/b/tsconfig.json" gets gives 5 1 "include=//p/*\nbaseUrl=/p/b/u\nbase=/p/b/u\nkey=x\ntarget=/p/b/*\ntarget=/p/b/u/filt/*\ntarget=/p/b/u/$\nkey=@f\ntarget=/p/b/u/x\ntarget=/p/b/u/t/*/*\ntarget=/p/b/u/*a*\nkey=@f/band\nflag 0=1\nflag 3=1\ntext 1=react\n")
    ∷ (B "/p/src" gets refuses 12 4)
    ∷ (B "/p/src" gets refuses 12 4)
    ∷ (O "/p/x.d.t" gets gives 65535 65535 "")
    ∷ (O "/p/./a.ts" gets refuses 7 0)
    ∷ (O "/b/a.b.TS" gets gives 65535 65535 "")
    ∷ (O "/p/b/x.ts" gets gives 65535 65535 "")
    ∷ (O "/p/..ts" gets gives 65535 65535 "")
    ∷ (O "/p/b/..t" gets gives 65535 65535 "")
    ∷ (O "/p/b/k.*" gets gives 65535 65535 "")
    ∷ (O "/p/a.ts/" gets refuses 7 0)
    ∷ (C "/p/b/a.ts" "@f" gets gives 0 0 "")
    ∷ (C "/p/tsconfig.json" "x/x" gets gives 0 0 "")
    ∷ (C "/p/b/a.ts" "." gets gives 0 0 "")
    ∷ (C "/p/tsconfig.json" "x" gets gives 0 0 "")
    ∷ (C "/p/tsconfig" "/x" gets gives 0 0 "")
    ∷ (C "/p" "@f" gets gives 0 0 "")
    ∷ (T "/p/src" "/p/src" "../z/x" gets refuses 12 4)
    ∷ (T "/p/src/a/b/.x.json" "/p/a#b" "x" gets refuses 7 0)
    ∷ (T "/p/b/a.ts" "/p/b" "../x" gets gives 0 0 "")
    ∷ (T "/p/....json" "/node_modules" "pkg/sub" gets refuses 12 4)
    ∷ [])
unfolding tell
book_000026 = refl

-- BEGIN "/p/node_modules/m/tsconfig.json", baseUrl "${configDir}", ROOTDIRS, flag 10 0, rootDir "${configDir}/src", rootDir "./gen", outDir "..", flag 8
-- 1, rootDir "./b", text 0 "esnext", flag 5 1, END, BEGIN "/p/B.json", FILES, file ".//*./.", ROOTDIRS, rootDir "/p/src//", rootDir "/", rootDir
-- "/..a/b/.", rootDir "..", extends "./b/.././node_modules/m/tsconfig", extends "./node_modules/m", extends "./node_modules/m", outDir "", flag 7 0,
-- flag 8 1, END, BEGIN "/p/tsconfig.json", flag 8 0, PATHS, key ".x", target "*a*", target "", text 0 "", key "@f", target "/*aabb.*", target "*", key
-- "**", END
pub book_000027 :
    Answers "\u{1}\0\0\u{1f}\0\t\u{1f}\0\u{c}\0\u{e}\u{12}\n\0\u{f}+\0\u{10}\0\u{f};\0\u{5}\0\u{10}@\0\u{2}\0\u{12}\u{8}\u{1}\u{f}B\0\u{3}\0\u{13}\0E\0\u{6}\0\u{12}\u{5}\u{1}\u{14}\u{1}K\0\t\0\u{2}\u{3}T\0\u{7}\0\u{e}\u{f}[\0\u{8}\0\u{f}c\0\u{1}\0\u{f}d\0\u{8}\0\u{f}@\0\u{2}\0\u{8}l\0 \0\u{8}\u{8c}\0\u{10}\0\u{8}\u{8c}\0\u{10}\0\u{10}\u{9c}\0\0\0\u{12}\u{7}\0\u{12}\u{8}\u{1}\u{14}\u{1}\u{9c}\0\u{10}\0\u{12}\u{8}\0\n\u{b}¬\0\u{2}\0\u{c}®\0\u{3}\0\u{c}\u{9c}\0\0\0\u{13}\0\u{9c}\0\0\0\u{b}±\0\u{2}\0\u{c}³\0\u{8}\0\u{c}»\0\u{1}\0\u{b}¼\0\u{2}\0\u{14}" "/p/node_modules/m/tsconfig.json${configDir}${configDir}/src./gen.../besnext/p/B.json.//*././p/src////..a/b/../b/.././node_modules/m/tsconfig./node_modules/m/p/tsconfig.json.x*a*@f/*aabb.****"
    ((B "/p/tsconfig.json" gets gives 2 0 "base=/p\nkey=.x\ntarget=/p/*a*\ntarget=\nkey=@f\ntarget=/*aabb.*\ntarget=/p/*\nkey=**\nflag 8=0\ntext 0=\n")
    ∷ (B "/p/B.json" gets gives 1 3 "files=/p/*.\nbaseUrl=/p/\nbase=/p/\nrootDir=/p/src//\nrootDir=/\nrootDir=/..a/b/.\nrootDir=/\noutDir=\nflag 5=1\nflag 7=0\nflag 8=1\nflag 10=0\ntext 0=esnext\n")
    ∷ (B "/p/node_modules/m/tsconfig.json" gets gives 0 0 "baseUrl=/p/node_modules/m/\nbase=/p/node_modules/m/\nrootDir=/p/node_modules/m/src\nrootDir=/p/node_modules/m/gen\nrootDir=/p/node_modules/m/b\noutDir=/p/node_modules\nflag 5=1\nflag 8=1\nflag 10=0\ntext 0=esnext\n")
    ∷ (B "/p/tsconfig.json" gets gives 2 0 "base=/p\nkey=.x\ntarget=/p/*a*\ntarget=\nkey=@f\ntarget=/*aabb.*\ntarget=/p/*\nkey=**\nflag 8=0\ntext 0=\n")
    ∷ (B "/p" gets gives 2 0 "base=/p\nkey=.x\ntarget=/p/*a*\ntarget=\nkey=@f\ntarget=/*aabb.*\ntarget=/p/*\nkey=**\nflag 8=0\ntext 0=\n")
    ∷ (O "/p/node_modules/m/src/..vue" gets gives 65535 65535 "")
    ∷ (O "/p/node_modules/m/a.ts" gets gives 65535 65535 "")
    ∷ (O "/a/ab.tsx" gets gives 65535 65535 "")
    ∷ (O "/p/node_modules/a.t" gets gives 65535 65535 "")
    ∷ (O "/p/k.ts" gets gives 2 2 "")
    ∷ (O "/p/node_modules/m/a/..ts" gets gives 65535 65535 "")
    ∷ (O "/p/node_modules/m/k.ts" gets gives 65535 65535 "")
    ∷ (O "/p/x.d.*" gets gives 65535 65535 "")
    ∷ (C "/p/src" ".x" gets refuses 8 65535)
    ∷ (C "/p/node_modules/m/tsconfig.json" ".x" gets gives 1 0 "\u{14}\0/p/node_modules/m/.x")
    ∷ (C "/p/tsconfig.json" "a/./b/" gets gives 0 0 "")
    ∷ (C "/p/node_modules/m" "a/./b/" gets gives 1 0 "\u{15}\0/p/node_modules/m/a/b")
    ∷ (C "/p/B.json" "@f" gets gives 1 0 "\u{5}\0/p/@f")
    ∷ (T "/p" "/p/src/a" "@f" gets gives 2 0 "\u{8}\0/*aabb.*\u{4}\0/p/*")
    ∷ (T "/p/B.json" "/p/src/a" "b*" gets gives 1 0 "\u{5}\0/p/b*")
    ∷ (T "/p/B.json" "/node_modules" "a" gets gives 0 0 "")
    ∷ [])
unfolding tell
book_000027 = refl

-- BEGIN "/p/node_modules/m/tsconfig.json", PATHS, key "*k", target "..", key "@f*", target "../*", target "a//b/../*", baseUrl "..", declarationDir
-- "./dist/", flag 1 0, flag 2 1, END, BEGIN "/p/d.json", text 0 "\"", FILES, flag 5 0, flag 10 0, file "k.ts", extends "./src/a/b/x", declarationDir
-- "${configDir}/o", flag 6 0, END, BEGIN "/p/base.json", extends "./src/a/b/x", extends "#pkg", outDir "../../../..", FILES, EXCLUDE, file
-- "src/../k.ts", file "k.ts", file "${configDir}k.ts", END, BEGIN "/p/b/tsconfig.json", FILES, file "${configDir}a.ts", file "/", ROOTDIRS, flag 1 1,
-- text 4 "react", END, BEGIN "/p/B.json", flag 6 1, ROOTDIRS, rootDir "/p/src/", rootDir "/q", reference "/p/d.json", rootDir "/p/src/", rootDir
-- "src/../gen", flag 8 0, reference "/p/d.json", reference "src/a/b/x", reference "../tsconfig", END, BEGIN "/p/src/a/b/x", FILES, file "x.vue", file
-- "../a.ts", file "src/./a.ts", flag 9 0, END, BEGIN "/q/.x.json", PATHS, key "\"*", target "./*", extends "/tsconfig.json", extends "./b/../..",
-- extends "../tsconfig//", baseUrl "${configDir", flag 9 0, text 0 "${configDir}", END, BEGIN "/tsconfig.json", INCLUDE, include "${configDir}/",
-- include "src/**", END
pub book_000028 :
    Answers "\u{1}\0\0\u{1f}\0\n\u{b}\u{1f}\0\u{2}\0\u{c}!\0\u{2}\0\u{b}#\0\u{3}\0\u{c}&\0\u{4}\0\u{c}*\0\t\0\t!\0\u{2}\0\u{11}3\0\u{7}\0\u{12}\u{1}\0\u{12}\u{2}\u{1}\u{14}\u{1}:\0\t\0\u{13}\0C\0\u{1}\0\u{2}\u{12}\u{5}\0\u{12}\n\0\u{3}D\0\u{4}\0\u{8}H\0\u{b}\0\u{11}S\0\u{e}\0\u{12}\u{6}\0\u{14}\u{1}a\0\u{c}\0\u{8}H\0\u{b}\0\u{8}m\0\u{4}\0\u{10}q\0\u{b}\0\u{2}\u{6}\u{3}|\0\u{b}\0\u{3}D\0\u{4}\0\u{3}\u{87}\0\u{10}\0\u{14}\u{1}\u{97}\0\u{12}\0\u{2}\u{3}©\0\u{10}\0\u{3}¹\0\u{1}\0\u{e}\u{12}\u{1}\u{1}\u{13}\u{4}º\0\u{5}\0\u{14}\u{1}¿\0\t\0\u{12}\u{6}\u{1}\u{e}\u{f}È\0\u{7}\0\u{f}Ï\0\u{2}\0\r:\0\t\0\u{f}È\0\u{7}\0\u{f}Ñ\0\n\0\u{12}\u{8}\0\r:\0\t\0\rÛ\0\t\0\rä\0\u{b}\0\u{14}\u{1}ï\0\u{c}\0\u{2}\u{3}û\0\u{5}\0\u{3}\0\u{1}\u{7}\0\u{3}\u{7}\u{1}\n\0\u{12}\t\0\u{14}\u{1}\u{11}\u{1}\n\0\n\u{b}\u{1b}\u{1}\u{2}\0\u{c}\u{1d}\u{1}\u{3}\0\u{8} \u{1}\u{e}\0\u{8}.\u{1}\t\0\u{8}7\u{1}\r\0\tD\u{1}\u{b}\0\u{12}\t\0\u{13}\0O\u{1}\u{c}\0\u{14}\u{1} \u{1}\u{e}\0\u{4}\u{5}[\u{1}\r\0\u{5}h\u{1}\u{6}\0\u{14}" "/p/node_modules/m/tsconfig.json*k..@f*../*a//b/../*./dist//p/d.json\"k.ts./src/a/b/x${configDir}/o/p/base.json#pkg../../../..src/../k.ts${configDir}k.ts/p/b/tsconfig.json${configDir}a.ts/react/p/B.json/p/src//qsrc/../gensrc/a/b/x../tsconfig/p/src/a/b/xx.vue../a.tssrc/./a.ts/q/.x.json\"*./*/tsconfig.json./b/../..../tsconfig//${configDir${configDir}${configDir}/src/**"
    ((B "/p/node_modules/m/tsconfig.json" gets gives 0 0 "baseUrl=/p/node_modules\nbase=/p/node_modules\nkey=*k\ntarget=/p\nkey=@f*\ntarget=/p/*\ntarget=/p/node_modules/a/*\ndeclarationDir=/p/node_modules/m/dist\nflag 1=0\nflag 2=1\n")
    ∷ (B "/p/base.json" gets refuses 12 2)
    ∷ (B "/tsconfig.json" gets gives 7 0 "include=/\ninclude=/src/**\nbase=/\n")
    ∷ (B "/p/B" gets gives 4 0 "base=/p\nreference=/p/d.json\nreference=/p/d.json\nreference=src/a/b/x\nreference=../tsconfig\nrootDir=/p/src/\nrootDir=/q\nrootDir=/p/src/\nrootDir=/p/gen\nflag 6=1\nflag 8=0\n")
    ∷ (B "/p/b/tsconfig.json" gets gives 3 0 "files=/p/b/a.ts\nfiles=/\nbase=/p/b\nrootDir\nflag 1=1\ntext 4=react\n")
    ∷ (B "/p/B.json" gets gives 4 0 "base=/p\nreference=/p/d.json\nreference=/p/d.json\nreference=src/a/b/x\nreference=../tsconfig\nrootDir=/p/src/\nrootDir=/q\nrootDir=/p/src/\nrootDir=/p/gen\nflag 6=1\nflag 8=0\n")
    ∷ (O "/p/a.b.json" gets gives 65535 65535 "")
    ∷ (O "/x.d.ts" gets gives 7 7 "")
    ∷ (O "/p/node_modules/m/x.ts" gets gives 65535 65535 "")
    ∷ (O "/p/node_modules/m/b/..ts" gets gives 65535 65535 "")
    ∷ (O "/p/a.ts" gets gives 7 7 "")
    ∷ (O "/k.ts" gets gives 7 7 "")
    ∷ (O "/p/b/a.ts" gets gives 3 3 "")
    ∷ (C "/p/src/a/b/x" "bk" gets gives 0 0 "")
    ∷ (C "/p/d.json" "*k" gets gives 0 0 "")
    ∷ (T "?" "/p/node_modulesx" "\"../z" gets refuses 7 0)
    ∷ (T "/p/base.json" "/p/node_modulesx" "ab" gets refuses 12 2)
    ∷ (T "/p/base.json" "/q" "\"a/b" gets refuses 12 2)
    ∷ (T "/p/node_modules/m" "/node_modules" "kk" gets gives 0 0 "")
    ∷ (T "/p/base" "/p/src" "a/.." gets refuses 12 2)
    ∷ [])
unfolding tell
book_000028 = refl

-- BEGIN "/.x.json", outDir "${configDir}", declarationDir "..", flag 1 0, flag 7 1, END, BEGIN "/p/src/..d", INCLUDE, ROOTDIRS, rootDir "./..a", rootDir
-- "${configDir}/src/", PATHS, key "#a", key "**", target "/", flag 1 1, flag 4 1, flag 5 1, text 5 "", END, BEGIN "/p/src/tsconfig.json", extends
-- "../../a", extends "../../a", baseUrl "/u/w/", outDir "dist", flag 3 1, text 5 "react", END, BEGIN "/a/tsconfig.json", FILES, file
-- "${configDir}//k.ts/", file "a.ts", baseUrl "u", outDir "/o", flag 4 1, text 6 "x y", END, BEGIN "/p/src/a/tsconfig.json", PATHS, flag 6 0, extends
-- "../..d", ROOTDIRS, extends "./b/../..//../../.x.json", extends "../..d", key "a b*", target "./../*", target "${configDir}//../*", target "b.a/",
-- flag 1 1, key "", target "${configDir", rootDir "/q", key "a", target "${configDir}/*", target "src/", target "a//b/../*", key "*c", target "../../*",
-- END
pub book_000030 :
    Answers "\u{1}\0\0\u{8}\0\u{10}\u{8}\0\u{c}\0\u{11}\u{14}\0\u{2}\0\u{12}\u{1}\0\u{12}\u{7}\u{1}\u{14}\u{1}\u{16}\0\n\0\u{4}\u{e}\u{f} \0\u{5}\0\u{f}%\0\u{11}\0\n\u{b}6\0\u{2}\0\u{b}8\0\u{2}\0\u{c}:\0\u{1}\0\u{12}\u{1}\u{1}\u{12}\u{4}\u{1}\u{12}\u{5}\u{1}\u{13}\u{5};\0\0\0\u{14}\u{1};\0\u{14}\0\u{8}O\0\u{7}\0\u{8}O\0\u{7}\0\tV\0\u{5}\0\u{10}[\0\u{4}\0\u{12}\u{3}\u{1}\u{13}\u{5}_\0\u{5}\0\u{14}\u{1}d\0\u{10}\0\u{2}\u{3}t\0\u{13}\0\u{3}\u{87}\0\u{4}\0\t\u{8b}\0\u{1}\0\u{10}\u{8c}\0\u{2}\0\u{12}\u{4}\u{1}\u{13}\u{6}\u{8e}\0\u{3}\0\u{14}\u{1}\u{91}\0\u{16}\0\n\u{12}\u{6}\0\u{8}§\0\u{6}\0\u{e}\u{8}\u{ad}\0\u{18}\0\u{8}§\0\u{6}\0\u{b}Å\0\u{4}\0\u{c}É\0\u{6}\0\u{c}Ï\0\u{12}\0\u{c}á\0\u{4}\0\u{12}\u{1}\u{1}\u{b};\0\0\0\u{c}å\0\u{b}\0\u{f}ð\0\u{2}\0\u{b}ò\0\u{1}\0\u{c}ó\0\u{e}\0\u{c}\u{1}\u{1}\u{4}\0\u{c}\u{5}\u{1}\t\0\u{b}\u{e}\u{1}\u{2}\0\u{c}\u{10}\u{1}\u{7}\0\u{14}" "/.x.json${configDir}../p/src/..d./..a${configDir}/src/#a**//p/src/tsconfig.json../../a/u/w/distreact/a/tsconfig.json${configDir}//k.ts/a.tsu/ox y/p/src/a/tsconfig.json../..d./b/../..//../../.x.jsona b*./../*${configDir}//../*b.a/${configDir/qa${configDir}/*src/a//b/../**c../../*"
    ((B "/p/src/tsconfig.json" gets gives 2 2 "files=/p/src/k.ts/\nfiles=/p/src/a.ts\nbaseUrl=/u/w/\nbase=/u/w/\noutDir=/p/src/dist\nflag 3=1\nflag 4=1\ntext 5=react\ntext 6=x y\n")
    ∷ (B "/p/src/a/tsconfig.json" gets gives 4 3 "include\nbase=/p/src/a\nkey=a b*\ntarget=/p/src/*\ntarget=/p/src/a/../*\ntarget=/p/src/a/b.a\nkey=\ntarget=/p/src/a/${configDir\nkey=a\ntarget=/p/src/a/*\ntarget=/p/src/a/src\ntarget=/p/src/a/a/*\nkey=*c\ntarget=/p/*\nrootDir=/q\noutDir=/p/src/a/\ndeclarationDir=/\nflag 1=1\nflag 4=1\nflag 5=1\nflag 6=0\nflag 7=1\ntext 5=\n")
    ∷ (B "/p/src/..d" gets gives 1 0 "include\nbase=/p/src\nkey=#a\nkey=**\ntarget=/\nrootDir=/p/src/..a\nrootDir=/p/src/src/\nflag 1=1\nflag 4=1\nflag 5=1\ntext 5=\n")
    ∷ (B "/p/src/tsconfig" gets gives 2 2 "files=/p/src/k.ts/\nfiles=/p/src/a.ts\nbaseUrl=/u/w/\nbase=/u/w/\noutDir=/p/src/dist\nflag 3=1\nflag 4=1\ntext 5=react\ntext 6=x y\n")
    ∷ (B "/.x.json" gets gives 0 0 "base=/\noutDir=/\ndeclarationDir=/\nflag 1=0\nflag 7=1\n")
    ∷ (B "/p/src/a" gets gives 4 3 "include\nbase=/p/src/a\nkey=a b*\ntarget=/p/src/*\ntarget=/p/src/a/../*\ntarget=/p/src/a/b.a\nkey=\ntarget=/p/src/a/${configDir\nkey=a\ntarget=/p/src/a/*\ntarget=/p/src/a/src\ntarget=/p/src/a/a/*\nkey=*c\ntarget=/p/*\nrootDir=/q\noutDir=/p/src/a/\ndeclarationDir=/\nflag 1=1\nflag 4=1\nflag 5=1\nflag 6=0\nflag 7=1\ntext 5=\n")
    ∷ (O "/p/../a.ts" gets refuses 7 0)
    ∷ (O "/p/gen/ab.ts" gets gives 65535 65535 "")
    ∷ (O "/a/a.ts" gets gives 3 3 "")
    ∷ (O "/a/a.ts" gets gives 3 3 "")
    ∷ (C "/p/node_modules" "c*" gets refuses 8 65535)
    ∷ (C "/p/src/a" "" gets gives 1 0 "\u{14}\0/p/src/a/${configDir")
    ∷ (C "/p/src/..d" "a\\b" gets refuses 7 0)
    ∷ (C "/p/\u{7f}" "\"q" gets refuses 7 0)
    ∷ (C "/p/node_modules" "a bbc" gets refuses 8 65535)
    ∷ (T "/p/src" "/p/é" "./a/../b" gets refuses 7 0)
    ∷ (T "/p/src/..d" "/node_modules" "a bbc" gets gives 0 0 "")
    ∷ (T "/p/src/a" "/node_modules" "./a.ts" gets gives 0 0 "")
    ∷ (T "/p/src/..d" "/p/src/a" ".x" gets gives 0 0 "")
    ∷ (T "/p/src/a" "/node_modules" "xc" gets gives 0 0 "")
    ∷ [])
unfolding tell
book_000030 = refl

-- BEGIN "/q/d.json", FILES, file "src", PATHS, key "\"*", key "a b*", target "src/*", target "x", reference "./b/../../p/x", reference "..//p/x", flag 0
-- 0, flag 1 1, flag 7 0, text 1 "x y", END, BEGIN "/p/x", flag 1 1, flag 2 1, flag 8 0, flag 0 0, ROOTDIRS, rootDir "/q", rootDir "/q", rootDir
-- "${configDir}/src/", baseUrl "/./", rootDir "/p/./src", END, BEGIN "/p/src/tsconfig.json", FILES, file "src//a.ts", PATHS, key "a**", flag 2 1, END,
-- BEGIN "/a/d.json", INCLUDE, include "src/", include "src/?", include "**/*", ROOTDIRS, rootDir "${configDir}", rootDir "src/../gen", rootDir "/q",
-- rootDir "gen", extends "../p/src/tsconfig", declarationDir "../../../..", text 2 "it's", END, BEGIN "/p/node_modules/m/tsconfig.json", ROOTDIRS,
-- outDir "/o", flag 8 0, flag 7 0, END, BEGIN "/q/tsconfig.json", flag 7 0, text 0 "react", INCLUDE, include "src/a.ts", extends "../p/x/", include "?",
-- reference "/p/x", END
pub book_000033 :
    Answers "\u{1}\0\0\t\0\u{2}\u{3}\t\0\u{3}\0\n\u{b}\u{c}\0\u{2}\0\u{b}\u{e}\0\u{4}\0\u{c}\u{12}\0\u{5}\0\u{c}\u{17}\0\u{1}\0\r\u{18}\0\r\0\r%\0\u{7}\0\u{12}\0\0\u{12}\u{1}\u{1}\u{12}\u{7}\0\u{13}\u{1},\0\u{3}\0\u{14}\u{1}/\0\u{4}\0\u{12}\u{1}\u{1}\u{12}\u{2}\u{1}\u{12}\u{8}\0\u{12}\0\0\u{e}\u{f}3\0\u{2}\0\u{f}5\0\u{2}\0\u{f}7\0\u{11}\0\tH\0\u{3}\0\u{f}K\0\u{8}\0\u{14}\u{1}S\0\u{14}\0\u{2}\u{3}g\0\t\0\n\u{b}p\0\u{3}\0\u{12}\u{2}\u{1}\u{14}\u{1}s\0\t\0\u{4}\u{5}|\0\u{4}\0\u{5}\u{80}\0\u{5}\0\u{5}\u{85}\0\u{4}\0\u{e}\u{f}\u{89}\0\u{c}\0\u{f}\u{95}\0\n\0\u{f}\u{9f}\0\u{2}\0\u{f}¡\0\u{3}\0\u{8}¤\0\u{11}\0\u{11}µ\0\u{b}\0\u{13}\u{2}À\0\u{4}\0\u{14}\u{1}Ä\0\u{1f}\0\u{e}\u{10}ã\0\u{2}\0\u{12}\u{8}\0\u{12}\u{7}\0\u{14}\u{1}å\0\u{10}\0\u{12}\u{7}\0\u{13}\0õ\0\u{5}\0\u{4}\u{5}ú\0\u{8}\0\u{8}\u{2}\u{1}\u{7}\0\u{5}\t\u{1}\u{1}\0\r\n\u{1}\u{4}\0\u{14}" "/q/d.jsonsrc\"*a b*src/*x./b/../../p/x..//p/xx y/p/x/q/q${configDir}/src//.//p/./src/p/src/tsconfig.jsonsrc//a.tsa**/a/d.jsonsrc/src/?**/*${configDir}src/../gen/qgen../p/src/tsconfig../../../..it's/p/node_modules/m/tsconfig.json/o/q/tsconfig.jsonreactsrc/a.ts../p/x/?/p/x"
    ((B "/p/node_modules/m/tsconfig.json" gets gives 4 0 "base=/p/node_modules/m\nrootDir\noutDir=/o\nflag 7=0\nflag 8=0\n")
    ∷ (B "/a/d.json" gets gives 3 1 "files=/a/src/a.ts\ninclude=/a/src\ninclude=/a/src/?\ninclude=/a/**/*\nbase=/p/src\nkey=a**\nrootDir=/a/\nrootDir=/a/gen\nrootDir=/q\nrootDir=/a/gen\ndeclarationDir=/\nflag 2=1\ntext 2=it's\n")
    ∷ (B "/p/src/tsconfig.json" gets gives 2 0 "files=/p/src/src/a.ts\nbase=/p/src\nkey=a**\nflag 2=1\n")
    ∷ (B "/p/src" gets gives 2 0 "files=/p/src/src/a.ts\nbase=/p/src\nkey=a**\nflag 2=1\n")
    ∷ (B "/q/d.json" gets gives 0 0 "files=/q/src\nbase=/q\nkey=\"*\nkey=a b*\ntarget=/q/src/*\ntarget=/q/x\nreference=./b/../../p/x\nreference=..//p/x\nflag 0=0\nflag 1=1\nflag 7=0\ntext 1=x y\n")
    ∷ (O "/p/src/src/k.ts" gets gives 65535 65535 "")
    ∷ (O "/q/a/ab.tsx" gets gives 65535 65535 "")
    ∷ (O "/p/node_modules/m/x.ts" gets gives 65535 65535 "")
    ∷ (C "/q/d.json" "**" gets gives 0 0 "")
    ∷ (C "/" "ax*" gets refuses 8 65535)
    ∷ (T "/p/node_modules/m/tsconfig" "/p/b" "./x" gets gives 0 0 "")
    ∷ (T "/q/d.json" "/p/node_modulesx" "ax*" gets gives 0 0 "")
    ∷ (T "/p/node_modules/m" "/p" "a bx" gets gives 0 0 "")
    ∷ [])
unfolding tell
book_000033 = refl

-- BEGIN "/p b/tsconfig.json", PATHS, key "/abs/*", target "../a.ts/lib/a.ts/w", target "a/./*/", target "./*", key "a*b*", key "@f/*/x", target
-- "${configDir}/*", target "/abs/*", flag 2 1, flag 3 0, text 5 "esnext", END, BEGIN "/p/src/a/b/tsconfig.json", outDir "${configDir}/k/gen/a", text 5
-- "/", flag 8 0, flag 2 1, text 4 "a=b", extends "/p/B.json", INCLUDE, extends "/p/src/.x.json", include "*?", END, BEGIN "/p/src/.x.json", INCLUDE,
-- include "${configDir}/?.ts/?.ts/*.vue/..", include "/p/*.js/*/?.ts/", ROOTDIRS, rootDir "./gen", rootDir "/p/src//", rootDir "/q", reference "../B",
-- reference "../B", reference "../../p b/tsconfig.json", declarationDir "/o/../d", flag 0 1, text 1 "esnext", END, BEGIN "/p/B.json", FILES, file
-- "./src/a.ts", file "src/a.ts", INCLUDE, PATHS, flag 8 0, flag 10 0, END
pub book_000034 :
    Answers "\u{1}\0\0\u{12}\0\n\u{b}\u{12}\0\u{6}\0\u{c}\u{18}\0\u{12}\0\u{c}*\0\u{6}\0\u{c}0\0\u{3}\0\u{b}3\0\u{4}\0\u{b}7\0\u{6}\0\u{c}=\0\u{e}\0\u{c}\u{12}\0\u{6}\0\u{12}\u{2}\u{1}\u{12}\u{3}\0\u{13}\u{5}K\0\u{6}\0\u{14}\u{1}Q\0\u{18}\0\u{10}i\0\u{14}\0\u{13}\u{5}}\0\u{1}\0\u{12}\u{8}\0\u{12}\u{2}\u{1}\u{13}\u{4}~\0\u{3}\0\u{8}\u{81}\0\t\0\u{4}\u{8}\u{8a}\0\u{e}\0\u{5}\u{98}\0\u{2}\0\u{14}\u{1}\u{8a}\0\u{e}\0\u{4}\u{5}\u{9a}\0\u{1f}\0\u{5}¹\0\u{f}\0\u{e}\u{f}È\0\u{5}\0\u{f}Í\0\u{8}\0\u{f}Õ\0\u{2}\0\r×\0\u{4}\0\r×\0\u{4}\0\rÛ\0\u{17}\0\u{11}ò\0\u{7}\0\u{12}\0\u{1}\u{13}\u{1}K\0\u{6}\0\u{14}\u{1}\u{81}\0\t\0\u{2}\u{3}ù\0\n\0\u{3}\u{3}\u{1}\u{8}\0\u{4}\n\u{12}\u{8}\0\u{12}\n\0\u{14}" "/p b/tsconfig.json/abs/*../a.ts/lib/a.ts/wa/./*/./*a*b*@f/*/x${configDir}/*esnext/p/src/a/b/tsconfig.json${configDir}/k/gen/a/a=b/p/B.json/p/src/.x.json*?${configDir}/?.ts/?.ts/*.vue/../p/*.js/*/?.ts/./gen/p/src///q../B../../p b/tsconfig.json/o/../d./src/a.tssrc/a.ts"
    ((B "/p b/tsconfig.json" gets gives 0 0 "base=/p b\nkey=/abs/*\ntarget=/a.ts/lib/a.ts/w\ntarget=/p b/a/*\ntarget=/p b/*\nkey=a*b*\nkey=@f/*/x\ntarget=/p b/*\ntarget=/abs/*\nflag 2=1\nflag 3=0\ntext 5=esnext\n")
    ∷ (B "/p/B.json" gets gives 3 0 "files=/p/src/a.ts\nfiles=/p/src/a.ts\ninclude\nbase=/p\npaths\nflag 8=0\nflag 10=0\n")
    ∷ (B "/p/src/.x.json" gets gives 2 0 "include=/p/src/?.ts/?.ts/*.vue/..\ninclude=/p/*.js/*/?.ts/\nbase=/p/src\nreference=../B\nreference=../B\nreference=../../p b/tsconfig.json\nrootDir=/p/src/gen\nrootDir=/p/src//\nrootDir=/q\ndeclarationDir=/o/../d\nflag 0=1\ntext 1=esnext\n")
    ∷ (B "/p/src/a/b" gets gives 1 2 "files=/p/src/a/b/src/a.ts\nfiles=/p/src/a/b/src/a.ts\ninclude=/p/src/a/b/*?\nbase=/p\npaths\nrootDir=/p/src/gen\nrootDir=/p/src//\nrootDir=/q\noutDir=/p/src/a/b/k/gen/a\ndeclarationDir=/o/../d\nflag 0=1\nflag 2=1\nflag 8=0\nflag 10=0\ntext 1=esnext\ntext 4=a=b\ntext 5=/\n")
    ∷ (O "/p b/ka/a.ts" gets gives 0 0 "")
    ∷ (O "/p/src/a/a.t" gets gives 65535 65535 "")
    ∷ (O "/q/x..vue" gets gives 65535 65535 "")
    ∷ (O "/p b/x.cts" gets gives 0 0 "")
    ∷ (O "/p/src/a/b/k.tsx" gets gives 1 1 "")
    ∷ (O "/p b/src/a.ts" gets gives 0 0 "")
    ∷ (C "/p" "\t/abs/" gets refuses 7 0)
    ∷ (C "/p/\u{1f}" "ab*" gets refuses 7 0)
    ∷ (C "/p/src/a/b" "@f/c/x" gets gives 0 0 "")
    ∷ (C "/p/B.json" "a./b*" gets gives 0 0 "")
    ∷ (C "/p/src/a/b" "/abs/x" gets gives 0 0 "")
    ∷ (C "/p b" "@f/bc/x" gets gives 2 0 "\u{7}\0/p b/bc\u{7}\0/abs/bc")
    ∷ (T "/p b/tsconfig.json" "/q" "../" gets gives 0 0 "")
    ∷ (T "/p/src/a/b/tsconfig" "/p/b" "./../src/a" gets gives 3 0 "\u{8}\0/p/src/a\u{c}\0/p/src/gen/a\u{4}\0/q/a")
    ∷ (T "/p b/tsconfig" "/u/w" "../../.." gets gives 0 0 "")
    ∷ [])
unfolding tell
book_000034 = refl

-- BEGIN "/p/base.json", EXCLUDE, exclude "./*", exclude "${configDir}/**/*", reference "./..d", reference "./..d", baseUrl "", flag 2 0, flag 3 1, flag
-- 4 0, text 0 "", END, BEGIN "/p/r.json", INCLUDE, include ".", include "/p/./k.ts", include "a*/a*/?.ts/*a?", ROOTDIRS, rootDir "/", rootDir "..", flag
-- 0 0, flag 3 1, flag 8 0, text 5 "/", END, BEGIN "/p/..d", PATHS, key "", extends "./base", extends "./base", extends ".//r", extends "./r.json", flag
-- 1 1, flag 3 0, flag 4 0, flag 8 1, text 6 "x y", END
pub book_000035 :
    Answers "\u{1}\0\0\u{c}\0\u{6}\u{7}\u{c}\0\u{3}\0\u{7}\u{f}\0\u{11}\0\r \0\u{5}\0\r \0\u{5}\0\t%\0\0\0\u{12}\u{2}\0\u{12}\u{3}\u{1}\u{12}\u{4}\0\u{13}\0%\0\0\0\u{14}\u{1}%\0\t\0\u{4}\u{5}.\0\u{1}\0\u{5}/\0\t\0\u{5}8\0\u{e}\0\u{e}\u{f}F\0\u{1}\0\u{f}G\0\u{2}\0\u{12}\0\0\u{12}\u{3}\u{1}\u{12}\u{8}\0\u{13}\u{5}F\0\u{1}\0\u{14}\u{1}I\0\u{6}\0\n\u{b}%\0\0\0\u{8}O\0\u{6}\0\u{8}O\0\u{6}\0\u{8}U\0\u{4}\0\u{8}Y\0\u{8}\0\u{12}\u{1}\u{1}\u{12}\u{3}\0\u{12}\u{4}\0\u{12}\u{8}\u{1}\u{13}\u{6}a\0\u{3}\0\u{14}" "/p/base.json./*${configDir}/**/*./..d/p/r.json./p/./k.tsa*/a*/?.ts/*a?/../p/..d./base.//r./r.jsonx y"
    ((B "/p/..d" gets gives 2 4 "include=/p\ninclude=/p/./k.ts\ninclude=/p/a*/a*/?.ts/*a?\nexclude=/p/*\nexclude=/p/**/*\nbaseUrl=\nbase=\nkey=\nrootDir=/\nrootDir=/\nflag 0=0\nflag 1=1\nflag 2=0\nflag 3=0\nflag 4=0\nflag 8=1\ntext 0=\ntext 5=/\ntext 6=x y\n")
    ∷ (B "/p/r.json" gets gives 1 0 "include=/p\ninclude=/p/./k.ts\ninclude=/p/a*/a*/?.ts/*a?\nbase=/p\nrootDir=/\nrootDir=/\nflag 0=0\nflag 3=1\nflag 8=0\ntext 5=/\n")
    ∷ (B "/p/base.json" gets gives 0 0 "exclude=/p/*\nexclude=/p/**/*\nbaseUrl=\nbase=\nreference=./..d\nreference=./..d\nflag 2=0\nflag 3=1\nflag 4=0\ntext 0=\n")
    ∷ (B "/p/base.json" gets gives 0 0 "exclude=/p/*\nexclude=/p/**/*\nbaseUrl=\nbase=\nreference=./..d\nreference=./..d\nflag 2=0\nflag 3=1\nflag 4=0\ntext 0=\n")
    ∷ (B "/p/r.json" gets gives 1 0 "include=/p\ninclude=/p/./k.ts\ninclude=/p/a*/a*/?.ts/*a?\nbase=/p\nrootDir=/\nrootDir=/\nflag 0=0\nflag 3=1\nflag 8=0\ntext 5=/\n")
    ∷ (O "/p/ak/aa/..ts/aab/x.ts" gets gives 65535 65535 "")
    ∷ (O "/p/node_modules/m/ab.js" gets gives 65535 65535 "")
    ∷ (O "/p/a.ts" gets gives 65535 65535 "")
    ∷ (O "/aa/aa/b.ts/a." gets gives 65535 65535 "")
    ∷ (C "/p" "" gets refuses 8 65535)
    ∷ (C "/p/r.json" "pkg/sub" gets gives 0 0 "")
    ∷ (C "/p/base.json" "" gets gives 1 0 "\0\0")
    ∷ (C "/p/..d" "k" gets gives 1 0 "\u{1}\0k")
    ∷ (C "/p/r.json" "" gets gives 0 0 "")
    ∷ (T "/p/base" "/q" "k" gets gives 1 0 "\u{1}\0k")
    ∷ (T "/p/..d" "/p/node_modulesx" "abc" gets gives 1 0 "\u{3}\0abc")
    ∷ [])
unfolding tell
book_000035 = refl

-- BEGIN "/q/d.json", extends "../B", baseUrl "//u//w", flag 6 0, flag 9 0, text 0 "/", text 2 "${configDir}./u", END, BEGIN "/p/src/a/b/B.json",
-- INCLUDE, include "*.TS", include "src/a.ts", extends "..//../../../B.json", extends "../.json/.", baseUrl "//", flag 0 1, flag 8 0, text 1
-- "${configDir}//k", END, BEGIN "/p/A.json", outDir "x/..", flag 9 1, ROOTDIRS, rootDir "/p/src//", extends "../q/d.json", reference "src/a/.json",
-- rootDir "${configDir}/src", PATHS, key "a b*", target "a/../../*", rootDir "src/a", key "a*", target "x", text 2 "react", rootDir "/p/src", END, BEGIN
-- "/tsconfig.json", PATHS, key "/*bb*", key "/abs/*", baseUrl "./src/", flag 5 1, END, BEGIN "/B.json", PATHS, reference "./p/b/tsconfig.json", flag 1
-- 1, flag 3 1, END, BEGIN "/p/b/tsconfig.json", FILES, file "src", file "src//a.ts", flag 1 1, flag 4 0, flag 7 1, flag 8 0, flag 9 1, END, BEGIN
-- "/p/src/a/.json", FILES, INCLUDE, include "/p/", include "**/*", extends "/B.json", reference "../../b", reference "../../../q/d.json", reference
-- "/p/src/a/b/B", text 0 "", END
pub book_000036 :
    Answers "\u{1}\0\0\t\0\u{8}\t\0\u{4}\0\t\r\0\u{6}\0\u{12}\u{6}\0\u{12}\t\0\u{13}\0\u{13}\0\u{1}\0\u{13}\u{2}\u{14}\0\u{f}\0\u{14}\u{1}#\0\u{11}\0\u{4}\u{5}4\0\u{4}\0\u{5}8\0\u{8}\0\u{8}@\0\u{13}\0\u{8}S\0\n\0\t]\0\u{2}\0\u{12}\0\u{1}\u{12}\u{8}\0\u{13}\u{1}_\0\u{f}\0\u{14}\u{1}n\0\t\0\u{10}w\0\u{4}\0\u{12}\t\u{1}\u{e}\u{f}{\0\u{8}\0\u{8}\u{83}\0\u{b}\0\r\u{8e}\0\u{b}\0\u{f}\u{99}\0\u{10}\0\n\u{b}©\0\u{4}\0\u{c}\u{ad}\0\t\0\u{f}¶\0\u{5}\0\u{b}»\0\u{2}\0\u{c}½\0\u{1}\0\u{13}\u{2}¾\0\u{5}\0\u{f}Ã\0\u{6}\0\u{14}\u{1}É\0\u{e}\0\n\u{b}×\0\u{5}\0\u{b}Ü\0\u{6}\0\tâ\0\u{6}\0\u{12}\u{5}\u{1}\u{14}\u{1}è\0\u{7}\0\n\rï\0\u{13}\0\u{12}\u{1}\u{1}\u{12}\u{3}\u{1}\u{14}\u{1}\u{2}\u{1}\u{12}\0\u{2}\u{3}\u{14}\u{1}\u{3}\0\u{3}\u{17}\u{1}\t\0\u{12}\u{1}\u{1}\u{12}\u{4}\0\u{12}\u{7}\u{1}\u{12}\u{8}\0\u{12}\t\u{1}\u{14}\u{1} \u{1}\u{e}\0\u{2}\u{4}\u{5}.\u{1}\u{3}\0\u{5}1\u{1}\u{4}\0\u{8}è\0\u{7}\0\r5\u{1}\u{7}\0\r<\u{1}\u{11}\0\rM\u{1}\u{c}\0\u{13}\0Y\u{1}\0\0\u{14}" "/q/d.json../B//u//w/${configDir}./u/p/src/a/b/B.json*.TSsrc/a.ts..//../../../B.json../.json/.//${configDir}//k/p/A.jsonx/../p/src//../q/d.jsonsrc/a/.json${configDir}/srca b*a/../../*src/aa*xreact/p/src/tsconfig.json/*bb*/abs/*./src//B.json./p/b/tsconfig.json/p/b/tsconfig.jsonsrcsrc//a.ts/p/src/a/.json/p/**/*../../b../../../q/d.json/p/src/a/b/B"
    ((B "/p/b/tsconfig.json" gets gives 5 0 "files=/p/b/src\nfiles=/p/b/src/a.ts\nbase=/p/b\nflag 1=1\nflag 4=0\nflag 7=1\nflag 8=0\nflag 9=1\n")
    ∷ (B "/p/A.json" gets gives 2 2 "baseUrl=//u//w\nbase=//u//w\nkey=a b*\ntarget=//u/*\nkey=a*\ntarget=//u//w/x\nreference=src/a/.json\nrootDir=/p/src//\nrootDir=/p/src\nrootDir=/p/src/a\nrootDir=/p/src\noutDir=/p\nflag 1=1\nflag 3=1\nflag 6=0\nflag 9=1\ntext 0=/\ntext 2=react\n")
    ∷ (B "/q/d.json" gets gives 0 1 "baseUrl=//u//w\nbase=//u//w\npaths\nflag 1=1\nflag 3=1\nflag 6=0\nflag 9=0\ntext 0=/\ntext 2=${configDir}./u\n")
    ∷ (B "/B.json" gets gives 4 0 "base=/\npaths\nreference=./p/b/tsconfig.json\nflag 1=1\nflag 3=1\n")
    ∷ (B "/p/A.json" gets gives 2 2 "baseUrl=//u//w\nbase=//u//w\nkey=a b*\ntarget=//u/*\nkey=a*\ntarget=//u//w/x\nreference=src/a/.json\nrootDir=/p/src//\nrootDir=/p/src\nrootDir=/p/src/a\nrootDir=/p/src\noutDir=/p\nflag 1=1\nflag 3=1\nflag 6=0\nflag 9=1\ntext 0=/\ntext 2=react\n")
    ∷ (B "/tsconfig.json" gets gives 3 0 "baseUrl=/src\nbase=/src\nkey=/*bb*\nkey=/abs/*\nflag 5=1\n")
    ∷ (O "/p/b/k.ts" gets gives 3 3 "")
    ∷ (O "/p/node_modules/m/.d.ts" gets gives 65535 65535 "")
    ∷ (O "/p/src/a*.vue" gets gives 65535 65535 "")
    ∷ (O "/p/b/a.ts" gets gives 3 3 "")
    ∷ (O "./p" gets refuses 7 0)
    ∷ (C "/p/b" "*" gets gives 0 0 "")
    ∷ (C "/" "/abs/../z" gets gives 1 0 "\t\0/abs/../z")
    ∷ (C "/p/src/a/.json" "a/../.." gets gives 0 0 "")
    ∷ (C "/B.json" "a/../.." gets gives 0 0 "")
    ∷ (C "/p/b/tsconfig.json" "a*" gets gives 0 0 "")
    ∷ (T "/B" "/p/src/a/b" "abc" gets gives 0 0 "")
    ∷ (T "/p/src/a/" "/p/é" "a b" gets refuses 7 0)
    ∷ [])
unfolding tell
book_000036 = refl

-- BEGIN "/p/node_modules/m/tsconfig.json", INCLUDE, include "/x?/*.*/*a?/?.ts", include "/p/src", include "/p/", baseUrl "/u/w/", flag 0 1, flag 4 1,
-- flag 7 0, flag 8 0, flag 9 1, text 5 "a=b", END, BEGIN "/a/base.json", FILES, file "/p/src/a.ts", file ".", file "src//a.ts", extends
-- "../ab/tsconfig.json", extends "../p/src/.json", extends "../ab", text 5 "x y", END, BEGIN "/ab/tsconfig.json", FILES, file "a.ts", INCLUDE, include
-- "nothing", include "**/*.vue", EXCLUDE, exclude "**/src/**/*", exclude "**/*.ts", ROOTDIRS, rootDir "src/../gen", rootDir "${configDir}", flag 8 1,
-- END, BEGIN "/p/src/.json", flag 6 0, END
pub book_000037 :
    Answers "\u{1}\0\0\u{1f}\0\u{4}\u{5}\u{1f}\0\u{10}\0\u{5}/\0\u{6}\0\u{5}5\0\u{3}\0\t8\0\u{5}\0\u{12}\0\u{1}\u{12}\u{4}\u{1}\u{12}\u{7}\0\u{12}\u{8}\0\u{12}\t\u{1}\u{13}\u{5}=\0\u{3}\0\u{14}\u{1}@\0\u{c}\0\u{2}\u{3}L\0\u{b}\0\u{3}W\0\u{1}\0\u{3}X\0\t\0\u{8}a\0\u{13}\0\u{8}t\0\u{e}\0\u{8}\u{82}\0\u{5}\0\u{13}\u{5}\u{87}\0\u{3}\0\u{14}\u{1}\u{8a}\0\u{11}\0\u{2}\u{3}\u{9b}\0\u{4}\0\u{4}\u{5}\u{9f}\0\u{7}\0\u{5}¦\0\u{8}\0\u{6}\u{7}®\0\u{b}\0\u{7}¹\0\u{7}\0\u{e}\u{f}À\0\n\0\u{f}Ê\0\u{c}\0\u{12}\u{8}\u{1}\u{14}\u{1}Ö\0\u{c}\0\u{12}\u{6}\0\u{14}" "/p/node_modules/m/tsconfig.json/x?/*.*/*a?/?.ts/p/src/p//u/w/a=b/a/base.json/p/src/a.ts.src//a.ts../ab/tsconfig.json../p/src/.json../abx y/ab/tsconfig.jsona.tsnothing**/*.vue**/src/**/***/*.tssrc/../gen${configDir}/p/src/.json"
    ((B "/p/node_modules/m/tsconfig.json" gets gives 0 0 "include=/x?/*.*/*a?/?.ts\ninclude=/p/src\ninclude=/p/\nbaseUrl=/u/w/\nbase=/u/w/\nflag 0=1\nflag 4=1\nflag 7=0\nflag 8=0\nflag 9=1\ntext 5=a=b\n")
    ∷ (B "/a/base.json" gets gives 1 3 "files=/p/src/a.ts\nfiles=/a\nfiles=/a/src/a.ts\ninclude=/a/nothing\ninclude=/a/**/*.vue\nexclude=/a/**/src/**/*\nexclude=/a/**/*.ts\nbase=/ab\nrootDir=/ab/gen\nrootDir=/a/\nflag 6=0\nflag 8=1\ntext 5=x y\n")
    ∷ (B "/p/src/.json" gets gives 3 0 "base=/p/src\nflag 6=0\n")
    ∷ (B "/a/base.json" gets gives 1 3 "files=/p/src/a.ts\nfiles=/a\nfiles=/a/src/a.ts\ninclude=/a/nothing\ninclude=/a/**/*.vue\nexclude=/a/**/src/**/*\nexclude=/a/**/*.ts\nbase=/ab\nrootDir=/ab/gen\nrootDir=/a/\nflag 6=0\nflag 8=1\ntext 5=x y\n")
    ∷ (O "/p/x/a.mjs" gets gives 65535 65535 "")
    ∷ (O "/p/node_modules/m/k.ts" gets gives 65535 65535 "")
    ∷ (O "/p/node_modules/m/a/src/.a/a/k.mjs" gets gives 65535 65535 "")
    ∷ (O "/p/x.ts" gets gives 65535 65535 "")
    ∷ (C "/a/base.json" "pkg/sub" gets gives 0 0 "")
    ∷ (C "/p/src/.json" "kk" gets gives 0 0 "")
    ∷ (C "/p/node_modules/m" "a//b" gets gives 1 0 "\u{8}\0/u/w/a/b")
    ∷ (C "/p/src/.json" "a/../.." gets gives 0 0 "")
    ∷ (T "/a/base.json" "/node_modules" "a\\b" gets refuses 7 0)
    ∷ (T "/ab/tsconfig.json" "/p/src/a" "abbc" gets gives 0 0 "")
    ∷ (T "/a/base" "/u/w" "x" gets gives 0 0 "")
    ∷ (T "/p/src/" "/p/src/a" "." gets refuses 7 0)
    ∷ (T "/none" "/p/b" "abc" gets refuses 8 65535)
    ∷ [])
unfolding tell
book_000037 = refl

-- BEGIN "/q/tsconfig.json", flag 1 0, declarationDir "", INCLUDE, include "${configDir}*", flag 9 1, include "/", include "**/**", END, BEGIN
-- "/p/tsconfig.json", FILES, file "./src/a.ts", file "/p/src/a.ts", INCLUDE, include "${configDir}/src", EXCLUDE, exclude "k.ts", exclude
-- "${configDir}/**/*", exclude "x.*", PATHS, extends "../q/.x", extends "./b/..d", declarationDir "/o/", flag 5 1, flag 8 1, END, BEGIN "/p/x", EXCLUDE,
-- exclude "*.ts", PATHS, key "ab*", target "*/.b", key "a*c", target "${configDir}", target "/abs/*", target "*", extends "./b/..d", extends
-- "./b/.././b/..d//", baseUrl "/./", outDir "", flag 10 0, text 1 "", END, BEGIN "/p/b/..d", extends "../../q/.x.json", extends "../../q/.x.json",
-- extends "..//../q/.x.json", extends "./b/../../../q/.x.json", extends "..//../q/.x.json", flag 2 0, flag 4 0, END, BEGIN "/q/.x.json", EXCLUDE,
-- exclude "a*/*.vue", ROOTDIRS, rootDir "/p/src//", rootDir "//p/src", PATHS, key "*", target "$", target "x", reference "./tsconfig", reference "none",
-- flag 9 1, text 4 "esnext", text 5 "*./bb*", END
pub book_000038 :
    Answers "\u{1}\0\0\u{10}\0\u{12}\u{1}\0\u{11}\u{10}\0\0\0\u{4}\u{5}\u{10}\0\r\0\u{12}\t\u{1}\u{5}\u{1d}\0\u{1}\0\u{5}\u{1e}\0\u{5}\0\u{14}\u{1}#\0\u{10}\0\u{2}\u{3}3\0\n\0\u{3}=\0\u{b}\0\u{4}\u{5}H\0\u{10}\0\u{6}\u{7}X\0\u{4}\0\u{7}\\\0\u{11}\0\u{7}m\0\u{3}\0\n\u{8}p\0\u{7}\0\u{8}w\0\u{7}\0\u{11}~\0\u{3}\0\u{12}\u{5}\u{1}\u{12}\u{8}\u{1}\u{14}\u{1}\u{81}\0\u{4}\0\u{6}\u{7}\u{85}\0\u{4}\0\n\u{b}\u{89}\0\u{3}\0\u{c}\u{8c}\0\u{4}\0\u{b}\u{90}\0\u{3}\0\u{c}\u{93}\0\u{c}\0\u{c}\u{9f}\0\u{6}\0\u{c}¥\0\u{1}\0\u{8}w\0\u{7}\0\u{8}¦\0\u{10}\0\t¶\0\u{3}\0\u{10}\u{10}\0\0\0\u{12}\n\0\u{13}\u{1}\u{10}\0\0\0\u{14}\u{1}¹\0\u{8}\0\u{8}Á\0\u{f}\0\u{8}Á\0\u{f}\0\u{8}Ð\0\u{10}\0\u{8}à\0\u{16}\0\u{8}Ð\0\u{10}\0\u{12}\u{2}\0\u{12}\u{4}\0\u{14}\u{1}ö\0\n\0\u{6}\u{7}\0\u{1}\u{8}\0\u{e}\u{f}\u{8}\u{1}\u{8}\0\u{f}\u{10}\u{1}\u{7}\0\n\u{b}¥\0\u{1}\0\u{c}\u{17}\u{1}\u{1}\0\u{c}\u{18}\u{1}\u{1}\0\r\u{19}\u{1}\n\0\r#\u{1}\u{4}\0\u{12}\t\u{1}\u{13}\u{4}'\u{1}\u{6}\0\u{13}\u{5}-\u{1}\u{6}\0\u{14}" "/q/tsconfig.json${configDir}*/**/**/p/tsconfig.json./src/a.ts/p/src/a.ts${configDir}/srck.ts${configDir}/**/*x.*../q/.x./b/..d/o//p/x*.tsab**/.ba*c${configDir}/abs/**./b/.././b/..d///.//p/b/..d../../q/.x.json..//../q/.x.json./b/../../../q/.x.json/q/.x.jsona*/*.vue/p/src////p/src$x./tsconfignoneesnext*./bb*"
    ((B "/p/x" gets gives 2 7 "exclude=/p/*.ts\nbaseUrl=/./\nbase=/./\nkey=ab*\ntarget=/./*/.b\nkey=a*c\ntarget=/p/\ntarget=/abs/*\ntarget=/./*\nrootDir=/p/src//\nrootDir=//p/src\noutDir=\nflag 2=0\nflag 4=0\nflag 9=1\nflag 10=0\ntext 1=\ntext 4=esnext\ntext 5=*./bb*\n")
    ∷ (B "/p/b/..d" gets gives 3 5 "exclude=/p/b/a*/*.vue\nbase=/q\nkey=*\ntarget=/q/$\ntarget=/q/x\nrootDir=/p/src//\nrootDir=//p/src\nflag 2=0\nflag 4=0\nflag 9=1\ntext 4=esnext\ntext 5=*./bb*\n")
    ∷ (B "/q/.x.json" gets refuses 8 4)
    ∷ (B "/p/b/..d" gets gives 3 5 "exclude=/p/b/a*/*.vue\nbase=/q\nkey=*\ntarget=/q/$\ntarget=/q/x\nrootDir=/p/src//\nrootDir=//p/src\nflag 2=0\nflag 4=0\nflag 9=1\ntext 4=esnext\ntext 5=*./bb*\n")
    ∷ (B "/p/tsconfig" gets gives 1 7 "files=/p/src/a.ts\nfiles=/p/src/a.ts\ninclude=/p/src\nexclude=/p/k.ts\nexclude=/p/**/*\nexclude=/p/x.*\nbase=/p\npaths\nrootDir=/p/src//\nrootDir=//p/src\ndeclarationDir=/o/\nflag 2=0\nflag 4=0\nflag 5=1\nflag 8=1\nflag 9=1\ntext 4=esnext\ntext 5=*./bb*\n")
    ∷ (O "/src/x.ts" gets gives 65535 65535 "")
    ∷ (O "/p/a.ts" gets gives 65535 65535 "")
    ∷ (O "/p/node_modules/a*.mts" gets gives 65535 65535 "")
    ∷ (O "/a/src.js" gets gives 65535 65535 "")
    ∷ (O "/a/x.ts" gets gives 65535 65535 "")
    ∷ (C "/q/.x.json" "a/./b/" gets refuses 8 4)
    ∷ (C "/p/x" "@f/a/x" gets gives 1 0 "\t\0/./@f/a/x")
    ∷ (C "/q/.x.json" "c" gets refuses 8 4)
    ∷ (T "/p/\u{7f}" "/p/gen" "Ã©" gets refuses 7 0)
    ∷ (T "/p/x" "/q" "../gen/x" gets gives 0 0 "")
    ∷ (T "/none" "/p/gen" "b" gets refuses 8 65535)
    ∷ (T "/p/tsconfig" "/p/node_modules/m" "abc" gets gives 0 0 "")
    ∷ [])
unfolding tell
book_000038 = refl

-- BEGIN "/p/src/a/b/..d", flag 7 0, flag 5 1, PATHS, text 0 "", baseUrl "/x*", flag 8 1, flag 0 0, key "*", target "a//b/../*", target "a/../../*",
-- target "**", ROOTDIRS, rootDir "/p/src/", text 4 "\"", rootDir "/p/./src", END, BEGIN "/q/tsconfig.json", EXCLUDE, exclude "b/", exclude
-- "**/src/**/*", exclude "", extends "/p/src/a/b/..d", declarationDir "x/..", flag 0 0, flag 8 1, END
pub book_000039 :
    Answers "\u{1}\0\0\u{e}\0\u{12}\u{7}\0\u{12}\u{5}\u{1}\n\u{13}\0\u{e}\0\0\0\t\u{e}\0\u{3}\0\u{12}\u{8}\u{1}\u{12}\0\0\u{b}\u{11}\0\u{1}\0\u{c}\u{12}\0\t\0\u{c}\u{1b}\0\t\0\u{c}$\0\u{2}\0\u{e}\u{f}&\0\u{7}\0\u{13}\u{4}-\0\u{1}\0\u{f}.\0\u{8}\0\u{14}\u{1}6\0\u{10}\0\u{6}\u{7}F\0\u{2}\0\u{7}H\0\u{b}\0\u{7}\u{e}\0\0\0\u{8}\0\0\u{e}\0\u{11}S\0\u{4}\0\u{12}\0\0\u{12}\u{8}\u{1}\u{14}" "/p/src/a/b/..d/x**a//b/../*a/../../***/p/src/\"/p/./src/q/tsconfig.jsonb/**/src/**/*x/.."
    ((B "/q/tsconfig.json" gets gives 1 1 "exclude=/q/b\nexclude=/q/**/src/**/*\nexclude=\nbaseUrl=/x*\nbase=/x*\nkey=*\ntarget=/x*/a/*\ntarget=/*\ntarget=/x*/**\nrootDir=/p/src/\nrootDir=/p/./src\ndeclarationDir=/q\nflag 0=0\nflag 5=1\nflag 7=0\nflag 8=1\ntext 0=\ntext 4=\"\n")
    ∷ (B "/p/é" gets refuses 7 0)
    ∷ (B "/p/src/a/b/..d" gets gives 0 0 "baseUrl=/x*\nbase=/x*\nkey=*\ntarget=/x*/a/*\ntarget=/*\ntarget=/x*/**\nrootDir=/p/src/\nrootDir=/p/./src\nflag 0=0\nflag 5=1\nflag 7=0\nflag 8=1\ntext 0=\ntext 4=\"\n")
    ∷ (O "/b/a.ts" gets gives 65535 65535 "")
    ∷ (O "/q/a.ts" gets gives 65535 65535 "")
    ∷ (O "/q/src/a/k.js" gets gives 65535 65535 "")
    ∷ (O "/p/a/b" gets gives 65535 65535 "")
    ∷ (C "/p/src/a/b/..d" "@f/a/x" gets gives 3 0 "\u{c}\0/x@f/a/x/a/*\u{7}\0/@f/a/x\u{b}\0/x@f/a/x/**")
    ∷ (C "/p/./a.ts" "xxxxxxxxxxxxxxxxxxxxxxxxxxxxxxxxxxxxxxxxxxxxxxxxxxxxxxxxxxxxxxxxxxxxxxxxxxxxxxxxxxxxxxxxxxxxxxxxxxxxxxxxxxxxxxxxxxxxxxxxxxxxxxxxxxxxxxxxxxxxxxxxxxxxxxxxxxxxxxxxxxxxxxxxxxxxxxxxxxxxxxxxxxxxxxxxxxxxxxxxxxxxxxxxxxxxxxxxxxxxxxxxxxxxxxxxxxxxxxxxxxxxxxxxxxxxxxxxxxxxxxxxxxxxxxxxxxxxxxxxxxxxxxxxxxxxxxxxxxxxxxxxxxxxxxxxxxxxxxxxxxxxxxxxxxxxxxxxxxxxxxxxxxxxxxxxxxxxxxxxxxxxxxxxxxxxxxxxxxxxxxxxxxxxxxxxxxxxxxxxxxxxxxxxxxxxxxxxxxxxxxxxxxxxxxxxxxxxxxxxxxxxxxxxxxxxxxxxxxxxxxxxxxxxxxxxxxxxxxxxxxxxxxxxxxxxxxxxxxxxxxxxxxxxxxxxx" gets refuses 7 0)
    ∷ (C "/p/src/a/b/..d" "../z" gets gives 1 0 "\u{2}\0/z")
    ∷ (C "/q" "./" gets gives 1 0 "\u{3}\0/x*")
    ∷ (C "/p/src/a/b/..d" "" gets gives 3 0 "\u{6}\0/x/a/*\u{1}\0/\u{5}\0/x/**")
    ∷ (T "/q/tsconfig.json" "/q" "" gets gives 4 0 "\u{6}\0/x/a/*\u{1}\0/\u{5}\0/x/**\0\0")
    ∷ (T "/p/src/a/b/..d" "/node_modules" "src/a" gets gives 0 0 "")
    ∷ (T "/q/tsconfig.json" "/p" "a/b" gets gives 4 0 "\t\0/xa/b/a/*\u{4}\0/a/b\u{8}\0/xa/b/**\u{7}\0/x*/a/b")
    ∷ (T "/p/d" "/p/node_modulesx" "./../src/a" gets refuses 8 65535)
    ∷ [])
unfolding tell
book_000039 = refl

-- BEGIN "/p/tsconfig.json", ROOTDIRS, rootDir "/p/src//", rootDir "src/../gen", PATHS, key "@f/band", target "$", key "a", target "../*", key "@f/*/x",
-- target "${configDir}//../*", extends "./src/a/b/B.json", extends "/p/.x.json", declarationDir "./dist/", text 4 "it's", END, BEGIN "/q/B.json",
-- EXCLUDE, exclude "${configDir}./src/*a?", PATHS, baseUrl "./src/", flag 7 0, END, BEGIN "/p/.x.json", FILES, EXCLUDE, ROOTDIRS, rootDir "", rootDir
-- "k/../w/a.ts", extends ".//.x", extends ".//.x", reference ".//src/tsconfig", baseUrl "/x*", flag 10 0, END, BEGIN "/p/node_modules/m/base.json",
-- INCLUDE, flag 2 0, extends "../../src/tsconfig", include "**/src/**/*", reference "../../../q/..d", reference "../..", flag 6 1, baseUrl "/./", END,
-- BEGIN "/tsconfig.json", EXCLUDE, exclude "*/*.ts", exclude "nothing", exclude "src/?", baseUrl "*", flag 0 1, flag 7 0, flag 8 1, flag 9 1, END, BEGIN
-- "/p/src/a/b/B.json", flag 5 0, text 0 "esnext", END, BEGIN "/p/src/tsconfig", EXCLUDE, exclude "src/**/", reference "/p", END, BEGIN "/q/..d",
-- INCLUDE, include "src/*.vue", include "**/", include "a", EXCLUDE, exclude "**/?.ts", exclude "?.ts", reference "../p/node_modules/m/base", baseUrl
-- "${configDir", flag 0 0, END
pub book_000040 :
    Answers "\u{1}\0\0\u{10}\0\u{e}\u{f}\u{10}\0\u{8}\0\u{f}\u{18}\0\n\0\n\u{b}\"\0\u{7}\0\u{c})\0\u{1}\0\u{b}*\0\u{1}\0\u{c}+\0\u{4}\0\u{b}/\0\u{6}\0\u{c}5\0\u{12}\0\u{8}G\0\u{10}\0\u{8}W\0\n\0\u{11}a\0\u{7}\0\u{13}\u{4}h\0\u{4}\0\u{14}\u{1}l\0\t\0\u{6}\u{7}u\0\u{15}\0\n\t\u{8a}\0\u{6}\0\u{12}\u{7}\0\u{14}\u{1}W\0\n\0\u{2}\u{6}\u{e}\u{f}\u{90}\0\0\0\u{f}\u{90}\0\u{b}\0\u{8}\u{9b}\0\u{5}\0\u{8}\u{9b}\0\u{5}\0\r\u{a0}\0\u{f}\0\t¯\0\u{3}\0\u{12}\n\0\u{14}\u{1}²\0\u{1b}\0\u{4}\u{12}\u{2}\0\u{8}Í\0\u{12}\0\u{5}ß\0\u{b}\0\rê\0\u{e}\0\rø\0\u{5}\0\u{12}\u{6}\u{1}\tý\0\u{3}\0\u{14}\u{1}\0\u{1}\u{e}\0\u{6}\u{7}\u{e}\u{1}\u{6}\0\u{7}\u{14}\u{1}\u{7}\0\u{7}\u{1b}\u{1}\u{5}\0\t \u{1}\u{1}\0\u{12}\0\u{1}\u{12}\u{7}\0\u{12}\u{8}\u{1}\u{12}\t\u{1}\u{14}\u{1}!\u{1}\u{11}\0\u{12}\u{5}\0\u{13}\02\u{1}\u{6}\0\u{14}\u{1}8\u{1}\u{f}\0\u{6}\u{7}G\u{1}\u{7}\0\rN\u{1}\u{2}\0\u{14}\u{1}P\u{1}\u{6}\0\u{4}\u{5}V\u{1}\t\0\u{5}_\u{1}\u{3}\0\u{5}*\0\u{1}\0\u{6}\u{7}b\u{1}\u{7}\0\u{7}i\u{1}\u{4}\0\rm\u{1}\u{18}\0\t\u{85}\u{1}\u{b}\0\u{12}\0\0\u{14}" "/p/tsconfig.json/p/src//src/../gen@f/band$a../*@f/*/x${configDir}//../*./src/a/b/B.json/p/.x.json./dist/it's/q/B.json${configDir}./src/*a?./src/k/../w/a.ts.//.x.//src/tsconfig/x*/p/node_modules/m/base.json../../src/tsconfig**/src/**/*../../../q/..d../.././/tsconfig.json*/*.tsnothingsrc/?*/p/src/a/b/B.jsonesnext/p/src/tsconfigsrc/**//p/q/..dsrc/*.vue**/**/?.ts?.ts../p/node_modules/m/base${configDir"
    ((B "/q/B.json" gets gives 1 0 "exclude=/q/./src/*a?\nbaseUrl=/q/src\nbase=/q/src\npaths\nflag 7=0\n")
    ∷ (B "/p/.x.json" gets refuses 9 2)
    ∷ (B "/p/node_modules/m/base.json" gets refuses 9 2)
    ∷ (B "/tsconfig.json" gets gives 4 0 "exclude=/*/*.ts\nexclude=/nothing\nexclude=/src/?\nbaseUrl=/*\nbase=/*\nflag 0=1\nflag 7=0\nflag 8=1\nflag 9=1\n")
    ∷ (B "/p/src/a/b/B.json" gets gives 5 0 "base=/p/src/a/b\nflag 5=0\ntext 0=esnext\n")
    ∷ (B "/q/..d" gets gives 7 0 "include=/q/src/*.vue\ninclude=/q/**\ninclude=/q/a\nexclude=/q/**/?.ts\nexclude=/q/?.ts\nbaseUrl=/q/${configDir\nbase=/q/${configDir\nreference=../p/node_modules/m/base\nflag 0=0\n")
    ∷ (B "/tsconfig.json" gets gives 4 0 "exclude=/*/*.ts\nexclude=/nothing\nexclude=/src/?\nbaseUrl=/*\nbase=/*\nflag 0=1\nflag 7=0\nflag 8=1\nflag 9=1\n")
    ∷ (O "/a.ts" gets gives 4 4 "")
    ∷ (O "/x.ts" gets gives 4 4 "")
    ∷ (O "/p/a*.cts" gets refuses 9 2)
    ∷ (O "/q/x..js" gets gives 4 4 "")
    ∷ (C "/" "xxxxxxxxxxxxxxxxxxxxxxxxxxxxxxxxxxxxxxxxxxxxxxxxxxxxxxxxxxxxxxxxxxxxxxxxxxxxxxxxxxxxxxxxxxxxxxxxxxxxxxxxxxxxxxxxxxxxxxxxxxxxxxxxxxxxxxxxxxxxxxxxxxxxxxxxxxxxxxxxxxxxxxxxxxxxxxxxxxxxxxxxxxxxxxxxxxxxxxxxxxxxxxxxxxxxxxxxxxxxxxxxxxxxxxxxxxxxxxxxxxxxxxxxxxxxxxxxxxxxxxxxxxxxxxxxxxxxxxxxxxxxxxxxxxxxxxxxxxxxxxxxxxxxxxxxxxxxxxxxxxxxxxxxxxxxxxxxxxxxxxxxxxxxxxxxxxxxxxxxxxxxxxxxxxxxxxxxxxxxxxxxxxxxxxxxxxxxxxxxxxxxxxxxxxxxxxxxxxxxxxxxxxxxxxxxxxxxxxxxxxxxxxxxxxxxxxxxxxxxxxxxxxxxxxxxxxxxxxxxxxxxxxxxxxxxxxxxxxxxxxxxxxxxxxxxx" gets refuses 7 0)
    ∷ (C "/p/a.ts/" "a" gets refuses 7 0)
    ∷ (C "/p" "@f/.//x" gets refuses 9 2)
    ∷ (C "/p/node_modules/m/base.json" "abc" gets refuses 9 2)
    ∷ (T "/p" "/p/gen" "@f/a/b/x" gets refuses 9 2)
    ∷ (T "/p/tsconfig.json" "/q" "a" gets refuses 9 2)
    ∷ (T "/p" "/p/gen" "@f/a/b/x" gets refuses 9 2)
    ∷ (T "/q/B.json" "/p/src/a/b" "./a.ts" gets gives 0 0 "")
    ∷ (T "/" "/p/b" "@f/a/b/x" gets gives 1 0 "\u{b}\0/*/@f/a/b/x")
    ∷ [])
unfolding tell
book_000040 = refl

-- BEGIN "/p/src/a/b/tsconfig.json", ROOTDIRS, rootDir "/p/src", reference "/a/d", reference "../../../A", END, BEGIN "/p/A.json", extends "./b/.././x",
-- reference "../a/d", reference "../a/d", FILES, file "${configDir}//k.ts/", INCLUDE, include "/**/**/..", flag 3 0, END, BEGIN
-- "/p/node_modules/m/tsconfig.json", baseUrl "${configDir", declarationDir "./dist/", flag 8 0, END, BEGIN "/p/x", ROOTDIRS, rootDir "${configDir}/src",
-- rootDir "/", rootDir ".", rootDir "", extends "./b/base", extends "../a/d", extends "../a/d", extends "./b/base.json", baseUrl ".././b/w", flag 1 0,
-- flag 8 0, END, BEGIN "/a/d", INCLUDE, include "src/*", extends "/p/b/base.json", flag 2 0, flag 8 1, text 3 "a.b/.", END, BEGIN "/p/b/base.json",
-- FILES, baseUrl "a/${configDir}", flag 0 1, file "..", INCLUDE, flag 10 1, include "src", file "a.ts/.", flag 2 0, ROOTDIRS, rootDir "", rootDir
-- "//p/src", END
pub book_000041 :
    Answers "\u{1}\0\0\u{18}\0\u{e}\u{f}\u{18}\0\u{6}\0\r\u{1e}\0\u{4}\0\r\"\0\n\0\u{14}\u{1},\0\t\0\u{8}5\0\n\0\r?\0\u{6}\0\r?\0\u{6}\0\u{2}\u{3}E\0\u{13}\0\u{4}\u{5}X\0\t\0\u{12}\u{3}\0\u{14}\u{1}a\0\u{1f}\0\t\u{80}\0\u{b}\0\u{11}\u{8b}\0\u{7}\0\u{12}\u{8}\0\u{14}\u{1}\u{92}\0\u{4}\0\u{e}\u{f}\u{96}\0\u{10}\0\u{f}¦\0\u{1}\0\u{f}§\0\u{1}\0\u{f}¨\0\0\0\u{8}¨\0\u{8}\0\u{8}?\0\u{6}\0\u{8}?\0\u{6}\0\u{8}°\0\r\0\t½\0\u{8}\0\u{12}\u{1}\0\u{12}\u{8}\0\u{14}\u{1}\u{1e}\0\u{4}\0\u{4}\u{5}Å\0\u{5}\0\u{8}Ê\0\u{e}\0\u{12}\u{2}\0\u{12}\u{8}\u{1}\u{13}\u{3}Ø\0\u{5}\0\u{14}\u{1}Ê\0\u{e}\0\u{2}\tÝ\0\u{e}\0\u{12}\0\u{1}\u{3}ë\0\u{2}\0\u{4}\u{12}\n\u{1}\u{5}í\0\u{3}\0\u{3}ð\0\u{6}\0\u{12}\u{2}\0\u{e}\u{f}¨\0\0\0\u{f}ö\0\u{7}\0\u{14}" "/p/src/a/b/tsconfig.json/p/src/a/d../../../A/p/A.json./b/.././x../a/d${configDir}//k.ts//**/**/../p/node_modules/m/tsconfig.json${configDir./dist//p/x${configDir}/src/../b/base./b/base.json.././b/wsrc/*/p/b/base.jsona.b/.a/${configDir}..srca.ts/.//p/src"
    ((B "/p/src/a/b/tsconfig.json" gets gives 0 0 "base=/p/src/a/b\nreference=/a/d\nreference=../../../A\nrootDir=/p/src\n")
    ∷ (B "/p/A.json" gets gives 1 6 "files=/p/k.ts/\ninclude=/**/**/..\nbaseUrl=/b/w\nbase=/b/w\nreference=../a/d\nreference=../a/d\nrootDir=/p/src\nrootDir=/\nrootDir=/p\nrootDir=\nflag 0=1\nflag 1=0\nflag 2=0\nflag 3=0\nflag 8=0\nflag 10=1\ntext 3=a.b/.\n")
    ∷ (B "/p/x" gets gives 3 5 "files=/\nfiles=/p/a.ts\ninclude=/p/src\nbaseUrl=/b/w\nbase=/b/w\nrootDir=/p/src\nrootDir=/\nrootDir=/p\nrootDir=\nflag 0=1\nflag 1=0\nflag 2=0\nflag 8=0\nflag 10=1\ntext 3=a.b/.\n")
    ∷ (B "/a/d" gets gives 4 1 "files=/\nfiles=/a/a.ts\ninclude=/a/src/*\nbaseUrl=/a/a/${configDir}\nbase=/p/b/a/${configDir}\nrootDir=\nrootDir=//p/src\nflag 0=1\nflag 2=0\nflag 8=1\nflag 10=1\ntext 3=a.b/.\n")
    ∷ (B "/p/b/base.json" gets gives 5 0 "files=/p\nfiles=/p/b/a.ts\ninclude=/p/b/src\nbaseUrl=/p/b/a/${configDir}\nbase=/p/b/a/${configDir}\nrootDir=\nrootDir=//p/src\nflag 0=1\nflag 2=0\nflag 10=1\n")
    ∷ (B "/p/A.json" gets gives 1 6 "files=/p/k.ts/\ninclude=/**/**/..\nbaseUrl=/b/w\nbase=/b/w\nreference=../a/d\nreference=../a/d\nrootDir=/p/src\nrootDir=/\nrootDir=/p\nrootDir=\nflag 0=1\nflag 1=0\nflag 2=0\nflag 3=0\nflag 8=0\nflag 10=1\ntext 3=a.b/.\n")
    ∷ (O "/p/node_modules/m/x.ts" gets gives 65535 65535 "")
    ∷ (O "/p/\u{7f}" gets refuses 7 0)
    ∷ (O "/p/node_modules/m/..vue" gets gives 65535 65535 "")
    ∷ (O "/p/./a.ts" gets refuses 7 0)
    ∷ (O "/p/src/a/b/k.ts" gets gives 0 0 "")
    ∷ (O "/p/A.json" gets gives 65535 65535 "")
    ∷ (O "/p/src/a/b/x.ts" gets gives 0 0 "")
    ∷ (C "/p/node_modules/m/tsconfig.json" "xxxxxxxxxxxxxxxxxxxxxxxxxxxxxxxxxxxxxxxxxxxxxxxxxxxxxxxxxxxxxxxxxxxxxxxxxxxxxxxxxxxxxxxxxxxxxxxxxxxxxxxxxxxxxxxxxxxxxxxxxxxxxxxxxxxxxxxxxxxxxxxxxxxxxxxxxxxxxxxxxxxxxxxxxxxxxxxxxxxxxxxxxxxxxxxxxxxxxxxxxxxxxxxxxxxxxxxxxxxxxxxxxxxxxxxxxxxxxxxxxxxxxxxxxxxxxxxxxxxxxxxxxxxxxxxxxxxxxxxxxxxxxxxxxxxxxxxxxxxxxxxxxxxxxxxxxxxxxxxxxxxxxxxxxxxxxxxxxxxxxxxxxxxxxxxxxxxxxxxxxxxxxxxxxxxxxxxxxxxxxxxxxxxxxxxxxxxxxxxxxxxxxxxxxxxxxxxxxxxxxxxxxxxxxxxxxxxxxxxxxxxxxxxxxxxxxxxxxxxxxxxxxxxxxxxxxxxxxxxxxxxxxxxxxxxxxxxxxxxxxxxxxxxxxxxxx" gets refuses 7 0)
    ∷ (C "/p/b/base.json" "\"q" gets gives 1 0 "\u{16}\0/p/b/a/${configDir}/\"q")
    ∷ (C "/p/src/a/b" "a\u{1}" gets refuses 7 0)
    ∷ (T "/p/x" "/p" "ab" gets gives 1 0 "\u{7}\0/b/w/ab")
    ∷ (T "relative" "/p/gen" "x" gets refuses 7 0)
    ∷ (T "/p/A" "/u/w" "a/.." gets gives 1 0 "\u{4}\0/b/w")
    ∷ [])
unfolding tell
book_000041 = refl

-- BEGIN "/p/tsconfig.json", baseUrl "/", outDir "./dist/", declarationDir "/o/", flag 3 0, flag 7 1, flag 8 0, text 6 "${configDir}", END
pub book_000042 :
    Answers "\u{1}\0\0\u{10}\0\t\u{10}\0\u{1}\0\u{10}\u{11}\0\u{7}\0\u{11}\u{18}\0\u{3}\0\u{12}\u{3}\0\u{12}\u{7}\u{1}\u{12}\u{8}\0\u{13}\u{6}\u{1b}\0\u{c}\0\u{14}" "/p/tsconfig.json/./dist//o/${configDir}"
    ((B "/p/tsconfig.json" gets gives 0 0 "baseUrl=/\nbase=/\noutDir=/p/dist\ndeclarationDir=/o/\nflag 3=0\nflag 7=1\nflag 8=0\ntext 6=${configDir}\n")
    ∷ (B "/p" gets gives 0 0 "baseUrl=/\nbase=/\noutDir=/p/dist\ndeclarationDir=/o/\nflag 3=0\nflag 7=1\nflag 8=0\ntext 6=${configDir}\n")
    ∷ (O "/p/a#b" gets refuses 7 0)
    ∷ (O "/p/k.ts" gets gives 0 0 "")
    ∷ (O "/p/k.vue" gets gives 65535 65535 "")
    ∷ (O "/ab/x.cjs" gets gives 65535 65535 "")
    ∷ (O "/ab/a.b.ts" gets gives 65535 65535 "")
    ∷ (O "/p b/ab.jsx" gets gives 65535 65535 "")
    ∷ (O "/p/..ts" gets gives 0 0 "")
    ∷ (C "/p/tsconfig.json" "@f/band" gets gives 1 0 "\u{8}\0/@f/band")
    ∷ (C "/p/a.ts?" "src/a" gets refuses 7 0)
    ∷ (C "/p/tsconfig.json" "../" gets gives 1 0 "\u{1}\0/")
    ∷ (C "/p" "kk" gets gives 1 0 "\u{3}\0/kk")
    ∷ (T "/p" "/p/src" "." gets gives 0 0 "")
    ∷ (T "/p/tsconfig" "/p/gen" "${configDir}/lib/a.ts" gets gives 1 0 "\u{16}\0/${configDir}/lib/a.ts")
    ∷ (T "/p" "/u/w" "*" gets gives 1 0 "\u{2}\0/*")
    ∷ (T "/p" "/node_modules" ".x" gets gives 0 0 "")
    ∷ (T "/p/tsconfig" "/p/src/a" ".." gets gives 0 0 "")
    ∷ [])
unfolding tell
book_000042 = refl

-- BEGIN "/q/d", INCLUDE, include "/*a?/a/.", baseUrl "x*", flag 6 0, END, BEGIN "/a/tsconfig.json", INCLUDE, flag 9 0, declarationDir "${configDir}",
-- EXCLUDE, exclude "**/*", flag 8 0, include "${configDir}*", FILES, include "..//src", file "x.", include "?.ts/a*", file ".", file "x.vue", END, BEGIN
-- "/p/tsconfig.json", FILES, file "aa*b**", EXCLUDE, exclude "?", exclude "a/b/src/b", exclude "nothing", extends "./x/", declarationDir "/o", flag 8 1,
-- text 2 "", text 5 "esnext", END, BEGIN "/p/x", INCLUDE, include "./src/", include "**/node_modules/**", include "**/*", PATHS, key ".x", target "**",
-- extends "../q/d", outDir "${configDir}", flag 1 1, flag 2 0, flag 7 0, END
pub book_000043 :
    Answers "\u{1}\0\0\u{4}\0\u{4}\u{5}\u{4}\0\u{8}\0\t\u{c}\0\u{2}\0\u{12}\u{6}\0\u{14}\u{1}\u{e}\0\u{10}\0\u{4}\u{12}\t\0\u{11}\u{1e}\0\u{c}\0\u{6}\u{7}*\0\u{4}\0\u{12}\u{8}\0\u{5}.\0\r\0\u{2}\u{5};\0\u{7}\0\u{3}B\0\u{2}\0\u{5}D\0\u{7}\0\u{3}K\0\u{1}\0\u{3}L\0\u{5}\0\u{14}\u{1}Q\0\u{10}\0\u{2}\u{3}a\0\u{6}\0\u{6}\u{7}g\0\u{1}\0\u{7}h\0\t\0\u{7}q\0\u{7}\0\u{8}x\0\u{4}\0\u{11}|\0\u{2}\0\u{12}\u{8}\u{1}\u{13}\u{2}~\0\0\0\u{13}\u{5}~\0\u{6}\0\u{14}\u{1}\u{84}\0\u{4}\0\u{4}\u{5}\u{88}\0\u{6}\0\u{5}\u{8e}\0\u{12}\0\u{5}*\0\u{4}\0\n\u{b}\u{a0}\0\u{2}\0\u{c}¢\0\u{2}\0\u{8}¤\0\u{6}\0\u{10}\u{1e}\0\u{c}\0\u{12}\u{1}\u{1}\u{12}\u{2}\0\u{12}\u{7}\0\u{14}" "/q/d/*a?/a/.x*/a/tsconfig.json${configDir}**/*${configDir}*..//srcx.?.ts/a*.x.vue/p/tsconfig.jsonaa*b**?a/b/src/bnothing./x//oesnext/p/x./src/**/node_modules/**.x**../q/d"
    ((B "/q/d" gets gives 0 0 "include=/*a?/a/.\nbaseUrl=/q/x*\nbase=/q/x*\nflag 6=0\n")
    ∷ (B "/p//a.ts" gets refuses 7 0)
    ∷ (B "/p/x" gets gives 3 1 "include=/p/src\ninclude=/p/**/node_modules/**\ninclude=/p/**/*\nbaseUrl=/p/x*\nbase=/q/x*\nkey=.x\ntarget=/q/x*/**\noutDir=/p/\nflag 1=1\nflag 2=0\nflag 6=0\nflag 7=0\n")
    ∷ (B "/p/d" gets refuses 8 65535)
    ∷ (O "/p/node_modules/x.jsx" gets gives 65535 65535 "")
    ∷ (O "/p/k.*" gets gives 65535 65535 "")
    ∷ (O "/a/k/k.TS" gets gives 65535 65535 "")
    ∷ (O "/a/a/k.vue" gets gives 65535 65535 "")
    ∷ (O "/a/a.tsx" gets gives 65535 65535 "")
    ∷ (O "/a/a/a.*" gets gives 65535 65535 "")
    ∷ (O "/a/x." gets gives 1 1 "")
    ∷ (C "/a" ".x" gets gives 0 0 "")
    ∷ (C "/a" "/abs/x" gets gives 0 0 "")
    ∷ (C "/p" "\"q" gets gives 1 0 "\u{8}\0/q/x*/\"q")
    ∷ (T "/a/tsconfig" "/" "../" gets gives 0 0 "")
    ∷ (T "/a/tsconfig" "/" "**" gets gives 0 0 "")
    ∷ (T "/p/tsconfig.json" "/p/node_modules/m" "/abs/x" gets gives 0 0 "")
    ∷ (T "/p/x" "/p/node_modules/m" "**" gets gives 0 0 "")
    ∷ [])
unfolding tell
book_000043 = refl

-- BEGIN "/ab/tsconfig.json", ROOTDIRS, rootDir "", rootDir "${configDir}", rootDir "gen", extends "../p/tsconfig.json", extends "../p/tsconfig", extends
-- "../p", reference "../p", reference "..//p/tsconfig.json", reference "./b/../../p/tsconfig.json", reference "..//p/tsconfig.json", baseUrl "../src",
-- END, BEGIN "/p/tsconfig.json", extends "/none", baseUrl "//u//w", outDir "..", flag 10 0, END
pub book_000044 :
    Answers "\u{1}\0\0\u{11}\0\u{e}\u{f}\u{11}\0\0\0\u{f}\u{11}\0\u{c}\0\u{f}\u{1d}\0\u{3}\0\u{8} \0\u{12}\0\u{8}2\0\r\0\u{8}?\0\u{4}\0\r?\0\u{4}\0\rC\0\u{13}\0\rV\0\u{19}\0\rC\0\u{13}\0\to\0\u{6}\0\u{14}\u{1}u\0\u{10}\0\u{8}\u{85}\0\u{5}\0\t\u{8a}\0\u{6}\0\u{10}\u{90}\0\u{2}\0\u{12}\n\0\u{14}" "/ab/tsconfig.json${configDir}gen../p/tsconfig.json../p/tsconfig../p..//p/tsconfig.json./b/../../p/tsconfig.json../src/p/tsconfig.json/none//u//w.."
    ((B "/ab/tsconfig.json" gets refuses 8 1)
    ∷ (B "/p/tsconfig.json" gets refuses 8 1)
    ∷ (B "/p" gets refuses 8 1)
    ∷ (O "/ab/x.ts" gets refuses 8 1)
    ∷ (O "/p/a.d.ts" gets refuses 8 1)
    ∷ (O "/ab/x.ts" gets refuses 8 1)
    ∷ (C "/p/" "x?y#z" gets refuses 7 0)
    ∷ (C "/p/tsconfig.json" "./src/.a/k.ts/w" gets refuses 8 1)
    ∷ (C "/ab/tsconfig.json" "src/a" gets refuses 8 1)
    ∷ (C "/ab" ".x" gets refuses 8 1)
    ∷ (T "/p" "/p/node_modules/m" "a//b" gets refuses 8 1)
    ∷ (T "/p/d.json" "/" "." gets refuses 8 65535)
    ∷ (T "/ab" "/" "." gets refuses 8 1)
    ∷ [])
unfolding tell
book_000044 = refl

-- BEGIN "/p/node_modules/m/d.json", reference "./b/../..//../src/a/b/.json", flag 2 1, INCLUDE, include "src/*.vue", reference "../../tsconfig.json",
-- include "**/*", include "*.TS", END, BEGIN "/p/src/a/b/.json", outDir "..", flag 7 1, flag 9 0, text 0 "*/*.b.", END, BEGIN "/p/.x.json", PATHS, flag
-- 0 1, flag 8 1, INCLUDE, reference ".", include "a", flag 10 0, reference "/p/tsconfig.json", text 2 "/", flag 6 1, reference "./tsconfig.json", key
-- "a**", target "./*", key "@f/*", target "/x*/y", target "/", END, BEGIN "/p/tsconfig.json", baseUrl "//..a/./x", flag 0 1, flag 8 0, flag 10 0, END
pub book_000045 :
    Answers "\u{1}\0\0\u{18}\0\r\u{18}\0\u{1b}\0\u{12}\u{2}\u{1}\u{4}\u{5}3\0\t\0\r<\0\u{13}\0\u{5}O\0\u{4}\0\u{5}S\0\u{4}\0\u{14}\u{1}W\0\u{10}\0\u{10}g\0\u{2}\0\u{12}\u{7}\u{1}\u{12}\t\0\u{13}\0i\0\u{6}\0\u{14}\u{1}o\0\n\0\n\u{12}\0\u{1}\u{12}\u{8}\u{1}\u{4}\ry\0\u{1}\0\u{5}z\0\u{1}\0\u{12}\n\0\r{\0\u{10}\0\u{13}\u{2}\u{8b}\0\u{1}\0\u{12}\u{6}\u{1}\r\u{8c}\0\u{f}\0\u{b}\u{9b}\0\u{3}\0\u{c}\u{9e}\0\u{3}\0\u{b}¡\0\u{4}\0\u{c}¥\0\u{5}\0\u{c}\u{8b}\0\u{1}\0\u{14}\u{1}{\0\u{10}\0\tª\0\t\0\u{12}\0\u{1}\u{12}\u{8}\0\u{12}\n\0\u{14}" "/p/node_modules/m/d.json./b/../..//../src/a/b/.jsonsrc/*.vue../../tsconfig.json**/**.TS/p/src/a/b/.json..*/*.b./p/.x.json.a/p/tsconfig.json/./tsconfig.jsona**./*@f/*/x*/y//..a/./x"
    ((B "/p/src/a/b/.json" gets gives 1 0 "base=/p/src/a/b\noutDir=/p/src/a\nflag 7=1\nflag 9=0\ntext 0=*/*.b.\n")
    ∷ (B "/p/.x.json" gets gives 2 0 "include=/p/a\nbase=/p\nkey=a**\ntarget=/p/*\nkey=@f/*\ntarget=/x*/y\ntarget=/\nreference=.\nreference=/p/tsconfig.json\nreference=./tsconfig.json\nflag 0=1\nflag 6=1\nflag 8=1\nflag 10=0\ntext 2=/\n")
    ∷ (B "/p/tsconfig.json" gets gives 3 0 "baseUrl=//..a/./x\nbase=//..a/./x\nflag 0=1\nflag 8=0\nflag 10=0\n")
    ∷ (B "/p/node_modules/m/d.json" gets gives 0 0 "include=/p/node_modules/m/src/*.vue\ninclude=/p/node_modules/m/**/*\ninclude=/p/node_modules/m/*.TS\nbase=/p/node_modules/m\nreference=./b/../..//../src/a/b/.json\nreference=../../tsconfig.json\nflag 2=1\n")
    ∷ (O "/p/node_modules/m/a.d.ts" gets gives 65535 65535 "")
    ∷ (O "/p/src/k.vue" gets gives 65535 65535 "")
    ∷ (O "/p/k.t" gets gives 65535 65535 "")
    ∷ (O "/p/x.ts" gets gives 3 3 "")
    ∷ (O "/p/k.ts" gets gives 3 3 "")
    ∷ (C "/p/.x" "**" gets gives 0 0 "")
    ∷ (C "/p" "@f/*" gets gives 1 0 "\u{e}\0//..a/./x/@f/*")
    ∷ (C "/p/src/a/b/.json" "@f/b" gets gives 0 0 "")
    ∷ (T "/p/node_modules/m/d.json" "/p/node_modules/m" "a\\b" gets refuses 7 0)
    ∷ (T "/p/.x.json" "/p/src" "./../../gen/x" gets gives 0 0 "")
    ∷ (T "/p/src/a/b/" "/p/b" "a**" gets refuses 7 0)
    ∷ [])
unfolding tell
book_000045 = refl

-- BEGIN "/p/r.json", baseUrl "a/${configDir}", declarationDir ".", flag 7 1, text 1 "a=b", END
pub book_000046 :
    Answers "\u{1}\0\0\t\0\t\t\0\u{e}\0\u{11}\u{17}\0\u{1}\0\u{12}\u{7}\u{1}\u{13}\u{1}\u{18}\0\u{3}\0\u{14}" "/p/r.jsona/${configDir}.a=b"
    ((B "/p/r.json" gets gives 0 0 "baseUrl=/p/a/${configDir}\nbase=/p/a/${configDir}\ndeclarationDir=/p\nflag 7=1\ntext 1=a=b\n")
    ∷ (B "/p/r.json" gets gives 0 0 "baseUrl=/p/a/${configDir}\nbase=/p/a/${configDir}\ndeclarationDir=/p\nflag 7=1\ntext 1=a=b\n")
    ∷ (O "/p/a.mts" gets gives 65535 65535 "")
    ∷ (O "/p/x" gets gives 65535 65535 "")
    ∷ (O "/p/src/b/x.d.ts" gets gives 65535 65535 "")
    ∷ (O "//p" gets refuses 7 0)
    ∷ (O "/ab/x..ts" gets gives 65535 65535 "")
    ∷ (O "/q" gets gives 65535 65535 "")
    ∷ (O "/x.ts" gets gives 65535 65535 "")
    ∷ (O "/p/x.jsx" gets gives 65535 65535 "")
    ∷ (C "/p/r.json" " " gets gives 1 0 "\u{13}\0/p/a/${configDir}/ ")
    ∷ (C "/p/r.json" "@f/" gets gives 1 0 "\u{14}\0/p/a/${configDir}/@f")
    ∷ (C "/none" "\"q" gets refuses 8 65535)
    ∷ (C "/p/r.json" "./a/../b" gets gives 1 0 "\u{13}\0/p/a/${configDir}/b")
    ∷ (C "/p/r" "abc" gets gives 1 0 "\u{15}\0/p/a/${configDir}/abc")
    ∷ (C "/p/r" "ac" gets gives 1 0 "\u{14}\0/p/a/${configDir}/ac")
    ∷ (T "/p/r" "/p/b" "@f/" gets gives 1 0 "\u{14}\0/p/a/${configDir}/@f")
    ∷ (T "/p/r.json" "/p/b" "/abs/x" gets gives 1 0 "\u{6}\0/abs/x")
    ∷ [])
unfolding tell
book_000046 = refl

-- BEGIN "/p/b/d", FILES, flag 8 1, flag 7 0, text 5 "", PATHS, key "@f*", target "./../*", declarationDir "../../../..", key "*c", target "$", key ".x",
-- target "//a/*", target ".", END, BEGIN "/p/b/tsconfig.json", FILES, file "/p/src/a.ts", file "/", extends "./d", flag 1 0, flag 3 1, text 5 "", text 6
-- "\"", END
pub book_000049 :
    Answers "\u{1}\0\0\u{6}\0\u{2}\u{12}\u{8}\u{1}\u{12}\u{7}\0\u{13}\u{5}\u{6}\0\0\0\n\u{b}\u{6}\0\u{3}\0\u{c}\t\0\u{6}\0\u{11}\u{f}\0\u{b}\0\u{b}\u{1a}\0\u{2}\0\u{c}\u{1c}\0\u{1}\0\u{b}\u{1d}\0\u{2}\0\u{c}\u{1f}\0\u{5}\0\u{c}$\0\u{1}\0\u{14}\u{1}%\0\u{12}\0\u{2}\u{3}7\0\u{b}\0\u{3}B\0\u{1}\0\u{8}C\0\u{3}\0\u{12}\u{1}\0\u{12}\u{3}\u{1}\u{13}\u{5}\u{6}\0\0\0\u{13}\u{6}F\0\u{1}\0\u{14}" "/p/b/d@f*./../*../../../..*c$.x//a/*./p/b/tsconfig.json/p/src/a.ts/./d\""
    ((B "/p/b/d" gets gives 0 0 "files\nbase=/p/b\nkey=@f*\ntarget=/p/*\nkey=*c\ntarget=/p/b/$\nkey=.x\ntarget=//a/*\ntarget=/p/b\ndeclarationDir=/\nflag 7=0\nflag 8=1\ntext 5=\n")
    ∷ (B "/p/b/d" gets gives 0 0 "files\nbase=/p/b\nkey=@f*\ntarget=/p/*\nkey=*c\ntarget=/p/b/$\nkey=.x\ntarget=//a/*\ntarget=/p/b\ndeclarationDir=/\nflag 7=0\nflag 8=1\ntext 5=\n")
    ∷ (B "/p/b/tsconfig.json" gets gives 1 1 "files=/p/src/a.ts\nfiles=/\nbase=/p/b\nkey=@f*\ntarget=/p/*\nkey=*c\ntarget=/p/b/$\nkey=.x\ntarget=//a/*\ntarget=/p/b\ndeclarationDir=/\nflag 1=0\nflag 3=1\nflag 7=0\nflag 8=1\ntext 5=\ntext 6=\"\n")
    ∷ (O "/p/b/a.ts" gets gives 65535 65535 "")
    ∷ (O "/ab/index.TS" gets gives 65535 65535 "")
    ∷ (O "/p/src/a.ts/x.ts" gets gives 65535 65535 "")
    ∷ (O "/p/b/k.cjs" gets gives 65535 65535 "")
    ∷ (O "/p/b/k.ts" gets gives 65535 65535 "")
    ∷ (O "/p/b/a.ts" gets gives 65535 65535 "")
    ∷ (O "/p/src/a.ts/x.mjs" gets gives 65535 65535 "")
    ∷ (C "/p/b/d" "./c" gets gives 0 0 "")
    ∷ (C "/p/" "${configDir}node_modules" gets refuses 7 0)
    ∷ (T "/p/b/tsconfig.json" "/p/node_modules/m" "a/./b/" gets gives 0 0 "")
    ∷ (T "/p/b/d" "/" "../gen/x" gets gives 0 0 "")
    ∷ (T "/p/b" "/p" "../zc" gets gives 0 0 "")
    ∷ (T "/p/b/tsconfig" "/p/node_modules/m" "pkg/sub" gets gives 0 0 "")
    ∷ [])
unfolding tell
book_000049 = refl

-- BEGIN "/p/src/a/b/tsconfig.json", INCLUDE, include "x.*", ROOTDIRS, rootDir "${configDir}/src/", END
pub book_000050 :
    Answers "\u{1}\0\0\u{18}\0\u{4}\u{5}\u{18}\0\u{3}\0\u{e}\u{f}\u{1b}\0\u{11}\0\u{14}" "/p/src/a/b/tsconfig.jsonx.*${configDir}/src/"
    ((B "/p/src/a/b/tsconfig.json" gets gives 0 0 "include=/p/src/a/b/x.*\nbase=/p/src/a/b\nrootDir=/p/src/a/b/src/\n")
    ∷ (B "/p/src/a/b" gets gives 0 0 "include=/p/src/a/b/x.*\nbase=/p/src/a/b\nrootDir=/p/src/a/b/src/\n")
    ∷ (B "/" gets refuses 8 65535)
    ∷ (O "/p/x/x.d.json" gets gives 65535 65535 "")
    ∷ (O "/p/src/a/b/x" gets gives 65535 65535 "")
    ∷ (O "/p/b/ab.d.ts" gets gives 65535 65535 "")
    ∷ (O "?" gets refuses 7 0)
    ∷ (O "/p/src/a/b/x.x.y" gets gives 65535 65535 "")
    ∷ (O "/p/src/a/b/x." gets gives 65535 65535 "")
    ∷ (O "/p/src/a/b/a.ts" gets gives 65535 65535 "")
    ∷ (C "/p/src/a/b/tsconfig.json" "../gen/x" gets gives 0 0 "")
    ∷ (C "/p/src/a/b/tsconfig" "abc" gets gives 0 0 "")
    ∷ (C "/p/src/a/b/tsconfig.json" "/abs/x" gets gives 0 0 "")
    ∷ (C "/p/\u{1f}" "../" gets refuses 7 0)
    ∷ (C "/p/src/a/b/tsconfig" "x" gets gives 0 0 "")
    ∷ (C "/p/é" "a/b" gets refuses 7 0)
    ∷ (T "/p/src/a/b/tsconfig.json" "/p/src" ".." gets gives 0 0 "")
    ∷ (T "/aaaaaaaaaaaaaaaaaaaaaaaaaaaaaaaaaaaaaaaaaaaaaaaaaaaaaaaaaaaaaaaaaaaaaaaaaaaaaaaaaaaaaaaaaaaaaaaaaaaaaaaaaaaaaaaaaaaaaaaaaaaaaaaaaaaaaaaaaaaaaaaaaaaaaaaaaaaaaaaaaaaaaaaaaaaaaaaaaaaaaaaaaaaaaaaaaaaaaaaaaaaaaaaaaaaaaaaaaaaaaaaaaaaaaaaaaaaaaaaaaaaaaaaaaaaaaaaaaaaaaaaaaaaaaaaaaaaaaaaaaaaaaaaaaaaaaaaaaaaaaaaaaaaaaaaaaaaaaaaaaaaaaaaaaaaaaaaaaaaaaaaaaaaaaaaaaaaaaaaaaaaaaaaaaaaaaaaaaaaaaaaaaaaaaaaaaaaaaaaaaaaaaaaaaaaaaaaaaaaaaaaaaaaaaaaaaaaaaaaaaaaaaaaaaaaaaaaaaaaaaaaaaaaaaaaaaaaaaaaaaaaaaaaaaaaaaaaaaaaaaaaaaaaaaaaa" "/p/src/a" "#a" gets refuses 7 0)
    ∷ (T "/p/src/a/b" "/p/node_modulesx" "Ã©" gets refuses 7 0)
    ∷ [])
unfolding tell
book_000050 = refl

-- BEGIN "/q/tsconfig.json", extends "../p/node_modules/m/a.ts", PATHS, extends "/p/tsconfig.json", text 6 "\"", extends "../p/node_modules/m/a.ts",
-- extends "../p/tsconfig", key "ab*", target "a/../../*", target "*a*", target "*a*", key "a**", target "//a/*", target "", END, BEGIN
-- "/p/node_modules/m/a.ts", INCLUDE, include "**/?.ts", include "/k.ts/b/a*", include "", ROOTDIRS, rootDir "/p/src//", rootDir "/p/src//", rootDir
-- "src/a", rootDir "/p/src//", baseUrl "//u//w", declarationDir "${configDir}/../o/", flag 0 1, flag 6 0, flag 8 0, END, BEGIN "/p/tsconfig.json",
-- ROOTDIRS, rootDir "src", rootDir "${configDir}/src", extends "/p/node_modules/m/a.ts", extends "./", extends "./node_modules/m/a.ts", extends
-- "./node_modules/m/a.ts", flag 7 1, flag 8 1, flag 9 1, END
pub book_000051 :
    Answers "\u{1}\0\0\u{10}\0\u{8}\u{10}\0\u{18}\0\n\u{8}(\0\u{10}\0\u{13}\u{6}8\0\u{1}\0\u{8}\u{10}\0\u{18}\0\u{8}9\0\r\0\u{b}F\0\u{3}\0\u{c}I\0\t\0\u{c}R\0\u{3}\0\u{c}R\0\u{3}\0\u{b}U\0\u{3}\0\u{c}X\0\u{5}\0\u{c}]\0\0\0\u{14}\u{1}]\0\u{16}\0\u{4}\u{5}s\0\u{7}\0\u{5}z\0\n\0\u{5}]\0\0\0\u{e}\u{f}\u{84}\0\u{8}\0\u{f}\u{84}\0\u{8}\0\u{f}\u{8c}\0\u{5}\0\u{f}\u{84}\0\u{8}\0\t\u{91}\0\u{6}\0\u{11}\u{97}\0\u{12}\0\u{12}\0\u{1}\u{12}\u{6}\0\u{12}\u{8}\0\u{14}\u{1}(\0\u{10}\0\u{e}\u{f}©\0\u{3}\0\u{f}¬\0\u{10}\0\u{8}]\0\u{16}\0\u{8}¼\0\u{2}\0\u{8}¾\0\u{15}\0\u{8}¾\0\u{15}\0\u{12}\u{7}\u{1}\u{12}\u{8}\u{1}\u{12}\t\u{1}\u{14}" "/q/tsconfig.json../p/node_modules/m/a.ts/p/tsconfig.json\"../p/tsconfigab*a/../../**a*a**//a/*/p/node_modules/m/a.ts**/?.ts/k.ts/b/a*/p/src//src/a//u//w${configDir}/../o/src${configDir}/src././node_modules/m/a.ts"
    ((B "/q/tsconfig.json" gets refuses 9 2)
    ∷ (B "/p/tsconfig.json" gets refuses 9 2)
    ∷ (B "/p/node_modules/m/a.ts" gets gives 1 0 "include=/p/node_modules/m/**/?.ts\ninclude=/k.ts/b/a*\ninclude=\nbaseUrl=//u//w\nbase=//u//w\nrootDir=/p/src//\nrootDir=/p/src//\nrootDir=/p/node_modules/m/src/a\nrootDir=/p/src//\ndeclarationDir=/p/node_modules/m/../o/\nflag 0=1\nflag 6=0\nflag 8=0\n")
    ∷ (O "/q/k.ts" gets refuses 9 2)
    ∷ (O "/p/src/k.t" gets refuses 9 2)
    ∷ (O "/k.ts/b/aa/x.ts" gets gives 65535 65535 "")
    ∷ (O "/q/x.ts" gets refuses 9 2)
    ∷ (O "/p/a.ts" gets refuses 9 2)
    ∷ (O "/q/k.ts" gets refuses 9 2)
    ∷ (C "/q/tsconfig.json" "x" gets refuses 9 2)
    ∷ (C "/p" "aa/b*" gets refuses 9 2)
    ∷ (C "/p/tsconfig.json" "aa/b*" gets refuses 9 2)
    ∷ (T "/q" "/p/node_modulesx" "ab../z" gets refuses 9 2)
    ∷ (T "/p" "/p/src/a" "a../z*" gets refuses 9 2)
    ∷ (T "/p" "/p/node_modulesx" "ab../z" gets refuses 9 2)
    ∷ (T "/p/node_modules/m/a.ts" "/q" "ab*" gets gives 1 0 "\n\0//u//w/ab*")
    ∷ [])
unfolding tell
book_000051 = refl

-- BEGIN "/p/tsconfig.json", flag 2 0, PATHS, key "*k", target "..", END, BEGIN "/q/tsconfig.json", INCLUDE, include "${configDir}/**/*", include "**/",
-- include "src/**", EXCLUDE, exclude "**/*.js", PATHS, key "k", target "/k.ts/a.b/b", target "${configDir}a.b/u", target "filt/*", key "*/x", target
-- "*", target "**", key "\"*", target "./*", key "a b*", target "./x", target "/x*/y", key "", target "/abs/*", target "", target "./../*", baseUrl
-- "${configDir}x", END, BEGIN "/p b/tsconfig.json", ROOTDIRS, rootDir "..", rootDir "/p/gen", rootDir "src/a", flag 5 0, END, BEGIN "/ab/base.json",
-- text 4 "\"", ROOTDIRS, FILES, INCLUDE, flag 7 0, PATHS, file "src/./a.ts", rootDir "/p/./src", rootDir "gen", include "?", key "x", target "t/*/*",
-- target "", flag 9 1, flag 8 1, file "${configDir}/k.ts", file "../x.js", key "k", key "a*c", key "\"*", key "#a", target "//..a/gen", END, BEGIN
-- "/q/B.json", flag 5 1, END
pub book_000052 :
    Answers "\u{1}\0\0\u{10}\0\u{12}\u{2}\0\n\u{b}\u{10}\0\u{2}\0\u{c}\u{12}\0\u{2}\0\u{14}\u{1}\u{14}\0\u{10}\0\u{4}\u{5}$\0\u{11}\0\u{5}5\0\u{3}\0\u{5}8\0\u{6}\0\u{6}\u{7}>\0\u{7}\0\n\u{b}E\0\u{1}\0\u{c}F\0\u{b}\0\u{c}Q\0\u{11}\0\u{c}b\0\u{6}\0\u{b}h\0\u{3}\0\u{c}k\0\u{1}\0\u{c}l\0\u{2}\0\u{b}n\0\u{2}\0\u{c}p\0\u{3}\0\u{b}s\0\u{4}\0\u{c}w\0\u{3}\0\u{c}z\0\u{5}\0\u{b}\u{7f}\0\0\0\u{c}\u{7f}\0\u{6}\0\u{c}\u{85}\0\0\0\u{c}\u{85}\0\u{6}\0\t\u{8b}\0\r\0\u{14}\u{1}\u{98}\0\u{12}\0\u{e}\u{f}ª\0\u{2}\0\u{f}¬\0\u{6}\0\u{f}²\0\u{5}\0\u{12}\u{5}\0\u{14}\u{1}·\0\r\0\u{13}\u{4}Ä\0\u{1}\0\u{e}\u{2}\u{4}\u{12}\u{7}\0\n\u{3}Å\0\n\0\u{f}Ï\0\u{8}\0\u{f}×\0\u{3}\0\u{5}Ú\0\u{1}\0\u{b}Û\0\u{1}\0\u{c}Ü\0\u{5}\0\u{c}á\0\0\0\u{12}\t\u{1}\u{12}\u{8}\u{1}\u{3}á\0\u{11}\0\u{3}ò\0\u{7}\0\u{b}ù\0\u{1}\0\u{b}ú\0\u{3}\0\u{b}ý\0\u{2}\0\u{b}ÿ\0\u{2}\0\u{c}\u{1}\u{1}\t\0\u{14}\u{1}\n\u{1}\t\0\u{12}\u{5}\u{1}\u{14}" "/p/tsconfig.json*k../q/tsconfig.json${configDir}/**/***/src/****/*.jsk/k.ts/a.b/b${configDir}a.b/ufilt/**/x***\"*./*a b*./x/x*/y/abs/*./../*${configDir}x/p b/tsconfig.json../p/gensrc/a/ab/base.json\"src/./a.ts/p/./srcgen?xt/*/*${configDir}/k.ts../x.jska*c\"*#a//..a/gen/q/B.json"
    ((B "/p/tsconfig.json" gets gives 0 0 "base=/p\nkey=*k\ntarget=/\nflag 2=0\n")
    ∷ (B "/q/tsconfig.json" gets gives 1 0 "include=/q/**/*\ninclude=/q/**\ninclude=/q/src/**\nexclude=/q/**/*.js\nbaseUrl=/q/x\nbase=/q/x\nkey=k\ntarget=/k.ts/a.b/b\ntarget=/q/a.b/u\ntarget=/q/x/filt/*\nkey=*/x\ntarget=/q/x/*\ntarget=/q/x/**\nkey=\"*\ntarget=/q/x/*\nkey=a b*\ntarget=/q/x/x\ntarget=/x*/y\nkey=\ntarget=/abs/*\ntarget=\ntarget=/q/*\n")
    ∷ (B "/q/B.json" gets gives 4 0 "base=/q\nflag 5=1\n")
    ∷ (B "/p b/tsconfig.json" gets gives 2 0 "base=/p b\nrootDir=/\nrootDir=/p/gen\nrootDir=/p b/src/a\nflag 5=0\n")
    ∷ (B "/p" gets gives 0 0 "base=/p\nkey=*k\ntarget=/\nflag 2=0\n")
    ∷ (O "/q/b/x.ts" gets gives 1 1 "")
    ∷ (O "/src/.a/k/k.ts" gets gives 65535 65535 "")
    ∷ (O "/p b/k.ts" gets gives 2 2 "")
    ∷ (O "/ab/ab.ts" gets gives 65535 65535 "")
    ∷ (O "/p b/a.ts" gets gives 2 2 "")
    ∷ (O "/x.js" gets gives 65535 65535 "")
    ∷ (O "/x.ts" gets gives 65535 65535 "")
    ∷ (C "/q/B.json" "x?y#z" gets gives 0 0 "")
    ∷ (C "/ab/base" "a bbc" gets gives 0 0 "")
    ∷ (C "/q/B.json" "." gets gives 0 0 "")
    ∷ (C "/ab/base.json" ".x" gets gives 0 0 "")
    ∷ (T "/p/tsconfig.json" "/q" "x" gets gives 0 0 "")
    ∷ (T "/p/tsconfig.json" "/p/gen" "a*" gets gives 0 0 "")
    ∷ [])
unfolding tell
book_000052 = refl

-- BEGIN "/p/b/tsconfig.json", flag 7 0, PATHS, declarationDir "/o", extends "../d.json", key "@f/*", target "${configDir}/gen/gen/x/lib", target "./x",
-- target "a/./*/", flag 2 1, extends "../../ab/A.json", flag 9 1, text 2 "a=b", key "a*b*", target "../*", INCLUDE, include "src/**/*", key
-- "/gen/.a/gen/", target "/", key "*/x", target "//a/*", target "${configDir}/*", target "filt/*", include "/a/./src/*", key "k", target "*", target
-- "../../*", target "${configDir", END, BEGIN "/ab/A.json", FILES, file "/p/src/../k.ts", file "b/", file "../src/w", INCLUDE, include
-- "${configDir}/src", include "${configDir}/**/k.ts", include "../**/*.ts", EXCLUDE, exclude "./src/", exclude "**/*", exclude "src/?", PATHS, key
-- "@f*", extends "/p/d.json", extends "/p/d.json", extends "../p/src/x", extends "../p/src/x", reference "../p/d", declarationDir ".*./.a", flag 3 0,
-- END, BEGIN "/p/d.json", INCLUDE, EXCLUDE, extends "./src/x", extends "./src/x", extends "./b/.././src/x", outDir "${configDir}node_modules/.././src",
-- flag 9 0, END, BEGIN "/p/src/x", INCLUDE, include "", include "a", ROOTDIRS, rootDir ".", rootDir "node_modules", flag 7 1, flag 8 1, text 4
-- "${configDir}", END
pub book_000053 :
    Answers "\u{1}\0\0\u{12}\0\u{12}\u{7}\0\n\u{11}\u{12}\0\u{2}\0\u{8}\u{14}\0\t\0\u{b}\u{1d}\0\u{4}\0\u{c}!\0\u{1a}\0\u{c};\0\u{3}\0\u{c}>\0\u{6}\0\u{12}\u{2}\u{1}\u{8}D\0\u{f}\0\u{12}\t\u{1}\u{13}\u{2}S\0\u{3}\0\u{b}V\0\u{4}\0\u{c}Z\0\u{4}\0\u{4}\u{5}^\0\u{8}\0\u{b}f\0\u{c}\0\u{c}r\0\u{1}\0\u{b}s\0\u{3}\0\u{c}v\0\u{5}\0\u{c}{\0\u{e}\0\u{c}\u{89}\0\u{6}\0\u{5}\u{8f}\0\n\0\u{b}\u{99}\0\u{1}\0\u{c}\u{9a}\0\u{1}\0\u{c}\u{9b}\0\u{7}\0\u{c}¢\0\u{b}\0\u{14}\u{1}\u{ad}\0\n\0\u{2}\u{3}·\0\u{e}\0\u{3}Å\0\u{2}\0\u{3}Ç\0\u{8}\0\u{4}\u{5}Ï\0\u{10}\0\u{5}ß\0\u{14}\0\u{5}ó\0\n\0\u{6}\u{7}ý\0\u{6}\0\u{7}\u{3}\u{1}\u{4}\0\u{7}\u{7}\u{1}\u{5}\0\n\u{b}\u{c}\u{1}\u{3}\0\u{8}\u{f}\u{1}\t\0\u{8}\u{18}\u{1}\t\0\u{8}!\u{1}\n\0\u{8}+\u{1}\n\0\r5\u{1}\u{6}\0\u{11};\u{1}\u{6}\0\u{12}\u{3}\0\u{14}\u{1}A\u{1}\t\0\u{4}\u{6}\u{8}J\u{1}\u{7}\0\u{8}Q\u{1}\u{7}\0\u{8}X\u{1}\u{e}\0\u{10}f\u{1}!\0\u{12}\t\0\u{14}\u{1}\u{87}\u{1}\u{8}\0\u{4}\u{5}\u{8f}\u{1}\0\0\u{5}\u{8f}\u{1}\u{1}\0\u{e}\u{f}\u{90}\u{1}\u{1}\0\u{f}\u{91}\u{1}\u{c}\0\u{12}\u{7}\u{1}\u{12}\u{8}\u{1}\u{13}\u{4}\u{9d}\u{1}\u{c}\0\u{14}" "/p/b/tsconfig.json/o../d.json@f/*${configDir}/gen/gen/x/lib./xa/./*/../../ab/A.jsona=ba*b*../*src/**/*/gen/.a/gen//*/x//a/*${configDir}/*filt/*/a/./src/*k*../../*${configDir/ab/A.json/p/src/../k.tsb/../src/w${configDir}/src${configDir}/**/k.ts../**/*.ts./src/**/*src/?@f*/p/d.json/p/d.json../p/src/x../p/src/x../p/d.*./.a/p/d.json./src/x./src/x./b/.././src/x${configDir}node_modules/.././src/p/src/xa.node_modules${configDir}"
    ((B "/p/b/tsconfig.json" gets gives 0 9 "files=/p/src/../k.ts\nfiles=/p/b/b\nfiles=/p/src/w\ninclude=/p/b/src/**/*\ninclude=/a/./src/*\nexclude=/p/b/src\nexclude=/p/b/**/*\nexclude=/p/b/src/?\nbase=/p/b\nkey=@f/*\ntarget=/p/b/gen/gen/x/lib\ntarget=/p/b/x\ntarget=/p/b/a/*\nkey=a*b*\ntarget=/p/*\nkey=/gen/.a/gen/\ntarget=/\nkey=*/x\ntarget=//a/*\ntarget=/p/b/*\ntarget=/p/b/filt/*\nkey=k\ntarget=/p/b/*\ntarget=/*\ntarget=/p/b/${configDir\nrootDir=/p/src\nrootDir=/p/src/node_modules\noutDir=/p/b/node_modules/.././src\ndeclarationDir=/o\nflag 2=1\nflag 3=0\nflag 7=0\nflag 8=1\nflag 9=1\ntext 2=a=b\ntext 4=${configDir}\n")
    ∷ (B "/p/d.json" gets gives 2 3 "include\nexclude\nbase=/p/src\nrootDir=/p/src\nrootDir=/p/src/node_modules\noutDir=/p/node_modules/.././src\nflag 7=1\nflag 8=1\nflag 9=0\ntext 4=${configDir}\n")
    ∷ (B "/p/src/x" gets gives 3 0 "include=\ninclude=/p/src/a\nbase=/p/src\nrootDir=/p/src\nrootDir=/p/src/node_modules\nflag 7=1\nflag 8=1\ntext 4=${configDir}\n")
    ∷ (B "?" gets refuses 7 0)
    ∷ (O "/p/src/a/src.*" gets gives 65535 65535 "")
    ∷ (O "/p/b/src/k.ts" gets gives 65535 65535 "")
    ∷ (O "./p" gets refuses 7 0)
    ∷ (C "/p/b" "../" gets gives 0 0 "")
    ∷ (C "/p/src/x" "@f/b" gets gives 0 0 "")
    ∷ (T "/p/d" "/p/src" "k" gets gives 0 0 "")
    ∷ (T "/p/b/tsconfig" "/p/src" "@f/a/b" gets gives 3 0 "\u{12}\0/p/b/gen/gen/x/lib\u{6}\0/p/b/x\n\0/p/b/a/a/b")
    ∷ (T "/p/d.json" "/p/src" "k" gets gives 0 0 "")
    ∷ (T "/p/src/x" "/p/node_modules/m" "@f/../z" gets gives 0 0 "")
    ∷ (T "/p/src/x" "/" "@f/x" gets gives 0 0 "")
    ∷ [])
unfolding tell
book_000053 = refl

-- BEGIN "/p/base.json", INCLUDE, include ".ts", include "src/*.vue", include "**/?.ts", ROOTDIRS, rootDir "src", PATHS, key "k*", target "./x", target
-- "/*", target "//a/*", key "*k", target "$", END, BEGIN "/ab/d.json", ROOTDIRS, rootDir "src", rootDir "/p/./src", extends "../p/base.json",
-- declarationDir "${configDir}", flag 2 1, flag 3 0, flag 6 0, text 4 "x y", END, BEGIN "/p/src/a/b/tsconfig.json", text 6 "x y", text 4 "esnext", flag
-- 7 0, baseUrl "/*/.a/", text 1 "${configDir}", PATHS, key "k", END, BEGIN "/p/src/base.json", baseUrl "/", declarationDir ".", flag 1 1, flag 4 0, flag
-- 10 0, END
pub book_000054 :
    Answers "\u{1}\0\0\u{c}\0\u{4}\u{5}\u{c}\0\u{3}\0\u{5}\u{f}\0\t\0\u{5}\u{18}\0\u{7}\0\u{e}\u{f}\u{1f}\0\u{3}\0\n\u{b}\"\0\u{2}\0\u{c}$\0\u{3}\0\u{c}'\0\u{2}\0\u{c})\0\u{5}\0\u{b}.\0\u{2}\0\u{c}0\0\u{1}\0\u{14}\u{1}1\0\n\0\u{e}\u{f}\u{1f}\0\u{3}\0\u{f};\0\u{8}\0\u{8}C\0\u{e}\0\u{11}Q\0\u{c}\0\u{12}\u{2}\u{1}\u{12}\u{3}\0\u{12}\u{6}\0\u{13}\u{4}]\0\u{3}\0\u{14}\u{1}`\0\u{18}\0\u{13}\u{6}]\0\u{3}\0\u{13}\u{4}x\0\u{6}\0\u{12}\u{7}\0\t~\0\u{6}\0\u{13}\u{1}Q\0\u{c}\0\n\u{b}\u{84}\0\u{1}\0\u{14}\u{1}\u{85}\0\u{10}\0\t\u{95}\0\u{1}\0\u{11}\u{96}\0\u{1}\0\u{12}\u{1}\u{1}\u{12}\u{4}\0\u{12}\n\0\u{14}" "/p/base.json.tssrc/*.vue**/?.tssrck*./x/*//a/**k$/ab/d.json/p/./src../p/base.json${configDir}x y/p/src/a/b/tsconfig.jsonesnext/*/.a/k/p/src/base.json/."
    ((B "/p/src/a/b/tsconfig.json" gets gives 2 0 "baseUrl=/*/.a/\nbase=/*/.a/\nkey=k\nflag 7=0\ntext 1=${configDir}\ntext 4=esnext\ntext 6=x y\n")
    ∷ (B "/p/src/base.json" gets gives 3 0 "baseUrl=/\nbase=/\ndeclarationDir=/p/src\nflag 1=1\nflag 4=0\nflag 10=0\n")
    ∷ (O "/p/src/a/b/x.jsx" gets gives 65535 65535 "")
    ∷ (O "/p/src/a/b/k.ts" gets gives 2 2 "")
    ∷ (O "/p/src/a/b/.ts/a.d.ts" gets gives 2 2 "")
    ∷ (O "/p/src/a/b/k.d.ts" gets gives 2 2 "")
    ∷ (O "/p/src/a/b/..vue" gets gives 65535 65535 "")
    ∷ (O "/p/node_modules/m/a.b.jsx" gets gives 65535 65535 "")
    ∷ (C "/p/src/a/b/tsconfig.json" "src/a" gets gives 1 0 "\u{b}\0/*/.a/src/a")
    ∷ (C "/ab/d.json" "..a" gets gives 0 0 "")
    ∷ (C "/p/src/base.json" "..a" gets gives 1 0 "\u{4}\0/..a")
    ∷ (C "/ab/d.json" "kc" gets gives 3 0 "\u{4}\0/p/x\u{2}\0/c\u{5}\0//a/c")
    ∷ (T "/ab/d.json" "/p/node_modules/m" "a/./b/" gets gives 0 0 "")
    ∷ (T "/p/src/base" "/" "k" gets gives 1 0 "\u{2}\0/k")
    ∷ [])
unfolding tell
book_000054 = refl

-- BEGIN "/p/src/a/b/tsconfig.json", text 6 "react", outDir "./dist/", ROOTDIRS, FILES, rootDir "/q", file "a.ts/.", INCLUDE, rootDir "/", flag 3 1,
-- include "**", include "src/*.vue", END
pub book_000056 :
    Answers "\u{1}\0\0\u{18}\0\u{13}\u{6}\u{18}\0\u{5}\0\u{10}\u{1d}\0\u{7}\0\u{e}\u{2}\u{f}$\0\u{2}\0\u{3}&\0\u{6}\0\u{4}\u{f},\0\u{1}\0\u{12}\u{3}\u{1}\u{5}-\0\u{2}\0\u{5}/\0\t\0\u{14}" "/p/src/a/b/tsconfig.jsonreact./dist//qa.ts/./**src/*.vue"
    ((B "/p/src/a/b/tsconfig.json" gets gives 0 0 "files=/p/src/a/b/a.ts\ninclude=/p/src/a/b/**\ninclude=/p/src/a/b/src/*.vue\nbase=/p/src/a/b\nrootDir=/q\nrootDir=/\noutDir=/p/src/a/b/dist\nflag 3=1\ntext 6=react\n")
    ∷ (B "/p/src/a/b" gets gives 0 0 "files=/p/src/a/b/a.ts\ninclude=/p/src/a/b/**\ninclude=/p/src/a/b/src/*.vue\nbase=/p/src/a/b\nrootDir=/q\nrootDir=/\noutDir=/p/src/a/b/dist\nflag 3=1\ntext 6=react\n")
    ∷ (B "/p/src/a/b" gets gives 0 0 "files=/p/src/a/b/a.ts\ninclude=/p/src/a/b/**\ninclude=/p/src/a/b/src/*.vue\nbase=/p/src/a/b\nrootDir=/q\nrootDir=/\noutDir=/p/src/a/b/dist\nflag 3=1\ntext 6=react\n")
    ∷ (O "/p/src/a/b/src/.vue" gets gives 65535 65535 "")
    ∷ (O "/p/" gets refuses 7 0)
    ∷ (O "/p/a.b.TS" gets gives 65535 65535 "")
    ∷ (O "/p/src/a/b/src/k.vue" gets gives 0 0 "")
    ∷ (O "/p/src/a/b/src/x.ts" gets gives 0 0 "")
    ∷ (C "/p/src/a/b" "a.ts/a/gen" gets gives 0 0 "")
    ∷ (C "/p/src/a/b/tsconfig.json" "./../../gen/x" gets gives 0 0 "")
    ∷ (C "/p/src/a/b/tsconfig.json" "@f/a/x" gets gives 0 0 "")
    ∷ (T "/p/src/a/b/tsconfig.json" "/p/src/a" "Ã©" gets refuses 7 0)
    ∷ (T "/p/src/a/b" "/p/src/a" "#a" gets gives 0 0 "")
    ∷ [])
unfolding tell
book_000056 = refl

-- BEGIN "/q/d", PATHS, FILES, flag 2 0, ROOTDIRS, file "x.", file "//p/k.ts", rootDir "//p/src", rootDir "${configDir}/k.ts/x", rootDir "/p", file
-- "k.ts/", key "@f/*", target "./x", key "**", target 56+1, target 57+3, rootDir 60+10, END, BEGIN 70+17, FILES, file 87+11, file "k.ts/", ROOTDIRS,
-- rootDir 98+16, rootDir 114+0, rootDir 114+2, rootDir 116+1, flag 8 1, END, BEGIN 117+14, PATHS, key "@f/*", target 116+1, key 56+1, target 131+7,
-- reference 138+6, flag 0 0, flag 1 1, flag 3 0, flag 5 1, text 0 144+3, END, BEGIN 147+16, INCLUDE, baseUrl 163+6, include 169+18, flag 3 0, flag 5 0,
-- include 187+3, include 190+4, declarationDir 194+4, outDir 116+1, END
pub book_000058 :
    Answers "\u{1}\0\0\u{4}\0\n\u{2}\u{12}\u{2}\0\u{e}\u{3}\u{4}\0\u{2}\0\u{3}\u{6}\0\u{8}\0\u{f}\u{e}\0\u{7}\0\u{f}\u{15}\0\u{13}\0\u{f}(\0\u{2}\0\u{3}*\0\u{5}\0\u{b}/\0\u{4}\0\u{c}3\0\u{3}\0\u{b}6\0\u{2}\0\u{c}8\0\u{1}\0\u{c}9\0\u{3}\0\u{f}<\0\n\0\u{14}\u{1}F\0\u{11}\0\u{2}\u{3}W\0\u{b}\0\u{3}*\0\u{5}\0\u{e}\u{f}b\0\u{10}\0\u{f}r\0\0\0\u{f}r\0\u{2}\0\u{f}t\0\u{1}\0\u{12}\u{8}\u{1}\u{14}\u{1}u\0\u{e}\0\n\u{b}/\0\u{4}\0\u{c}t\0\u{1}\0\u{b}8\0\u{1}\0\u{c}\u{83}\0\u{7}\0\r\u{8a}\0\u{6}\0\u{12}\0\0\u{12}\u{1}\u{1}\u{12}\u{3}\0\u{12}\u{5}\u{1}\u{13}\0\u{90}\0\u{3}\0\u{14}\u{1}\u{93}\0\u{10}\0\u{4}\t£\0\u{6}\0\u{5}©\0\u{12}\0\u{12}\u{3}\0\u{12}\u{5}\0\u{5}»\0\u{3}\0\u{5}¾\0\u{4}\0\u{11}Â\0\u{4}\0\u{10}t\0\u{1}\0\u{14}" "/q/dx.//p/k.ts//p/src${configDir}/k.ts/x/pk.ts/@f/*./x**"
    ((B "/p/tsconfig.json" gets refuses 4 56)
    ∷ (B "/p/src/a/b/d.json" gets refuses 4 56)
    ∷ (B "/p b/base.json" gets refuses 4 56)
    ∷ (B "/q/d" gets refuses 4 56)
    ∷ (B "/p/src" gets refuses 4 56)
    ∷ (O "/p/k.ts" gets refuses 4 56)
    ∷ (O "/p/x.jsx" gets refuses 4 56)
    ∷ (O "/p/k.vue" gets refuses 4 56)
    ∷ (O "/p/a/ab.ts" gets refuses 4 56)
    ∷ (O "/p/k.ts" gets refuses 4 56)
    ∷ (C "/q/d" "x" gets refuses 4 56)
    ∷ (C "/q/d" "./../src/a" gets refuses 4 56)
    ∷ (C "/q/d" "k" gets refuses 4 56)
    ∷ (C "/q/d" "@f/bc" gets refuses 4 56)
    ∷ (C "/p b/base.json" "a" gets refuses 4 56)
    ∷ (T "/q/d" "/p/src/a" "a*" gets refuses 4 56)
    ∷ (T "/q/d" "/p/src" "../gen/x" gets refuses 4 56)
    ∷ [])
unfolding tell
book_000058 = refl

-- BEGIN "/ab/tsconfig.json", INCLUDE, include "?", PATHS, key "#a", target "${configDir}.a/a.b/..", key "@f/*", target "", extends "../p/A", extends
-- "../p/A", extends "../p/A", reference "../p/A", reference "../p/A", reference "/p/A", reference "../p/A", flag 9 1, text 6 "esnext", END, BEGIN
-- "/p/A.json", PATHS, key "*/x", target "x/a.ts/k", target "**", declarationDir "${configDir}/../o/", flag 5 1, END
pub book_000059 :
    Answers "\u{1}\0\0\u{11}\0\u{4}\u{5}\u{11}\0\u{1}\0\n\u{b}\u{12}\0\u{2}\0\u{c}\u{14}\0\u{15}\0\u{b})\0\u{4}\0\u{c}-\0\0\0\u{8}-\0\u{6}\0\u{8}-\0\u{6}\0\u{8}-\0\u{6}\0\r-\0\u{6}\0\r-\0\u{6}\0\r3\0\u{4}\0\r-\0\u{6}\0\u{12}\t\u{1}\u{13}\u{6}7\0\u{6}\0\u{14}\u{1}=\0\t\0\n\u{b}F\0\u{3}\0\u{c}I\0\u{8}\0\u{c}Q\0\u{2}\0\u{11}S\0\u{12}\0\u{12}\u{5}\u{1}\u{14}" "/ab/tsconfig.json?#a${configDir}.a/a.b/..@f/*../p/A/p/Aesnext/p/A.json*/xx/a.ts/k**${configDir}/../o/"
    ((B "/p/A.json" gets gives 1 0 "base=/p\nkey=*/x\ntarget=/p/x/a.ts/k\ntarget=/p/**\ndeclarationDir=/p/../o/\nflag 5=1\n")
    ∷ (B "/p/node_modules" gets refuses 8 65535)
    ∷ (O "/ab/x.cjs" gets gives 65535 65535 "")
    ∷ (O "/ab/x.ts" gets gives 65535 65535 "")
    ∷ (O "/ab/ab.mts" gets gives 65535 65535 "")
    ∷ (O "/ab/k.ts" gets gives 65535 65535 "")
    ∷ (O "/ab/a.*" gets gives 65535 65535 "")
    ∷ (O "/ab/ab.js" gets gives 65535 65535 "")
    ∷ (O "/ab/b/k.tsx" gets gives 65535 65535 "")
    ∷ (O "/ab/k.cjs" gets gives 65535 65535 "")
    ∷ (C "/p/A.json" "abc" gets gives 0 0 "")
    ∷ (C "/ab" "c/x" gets gives 0 0 "")
    ∷ (C "./p" "#a" gets refuses 7 0)
    ∷ (C "/p/A.json" "@f" gets gives 0 0 "")
    ∷ (T "/ab/tsconfig.json" "/node_modules" "@f/b" gets gives 0 0 "")
    ∷ (T "/p/d.json" "/u/w" "@f/c" gets refuses 8 65535)
    ∷ [])
unfolding tell
book_000059 = refl
